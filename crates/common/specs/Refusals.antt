-- The number, the layer and the place of each refusal, said once for every contract that refuses.
use Rattle.std.specs.Prelude.{ℕ, List, ◌++◌, codes, decimal}
use Rattle.common.specs.declared.refusal.Refusal.{Refusal}
use Rattle.common.specs.declared.refusal.Refusal.TheVariants.{WindowWidth, DrawWidth, WindowCount, KeyLength, KeyTooLarge, TooFewDigits, TableTooShort, NotAMember, DrawsExhausted, UnfitDraw, Modulus, UnknownField, RecordCutShort, FieldOutOfRange, FieldNeverGiven, BufferTooShort, InputTooLong}

-- the number by which a refusal is known
abbrev pub number : Refusal → ℕ
number WindowWidth = 1
number DrawWidth = 2
number WindowCount = 3
number (KeyLength words) = 4
number (KeyTooLarge bit) = 5
number (TooFewDigits words) = 6
number (TableTooShort cells) = 7
number NotAMember = 8
number (DrawsExhausted mark) = 9
number UnfitDraw = 10
number Modulus = 12
number (UnknownField offset) = 21
number (RecordCutShort size) = 22
number (FieldOutOfRange offset) = 23
number (FieldNeverGiven offset) = 24
number (BufferTooShort needed) = 25
number (InputTooLong limit) = 26

-- the layer that refused: 1 job, 2 sizes, 3 key, 4 cells and words, 5 group, 6 draws
abbrev pub layer : Refusal → ℕ
layer WindowWidth = 2
layer DrawWidth = 2
layer WindowCount = 2
layer (KeyLength words) = 3
layer (KeyTooLarge bit) = 3
layer (TooFewDigits words) = 4
layer (TableTooShort cells) = 4
layer NotAMember = 5
layer (DrawsExhausted mark) = 6
layer UnfitDraw = 6
layer Modulus = 5
layer (UnknownField offset) = 1
layer (RecordCutShort size) = 1
layer (FieldOutOfRange offset) = 1
layer (FieldNeverGiven offset) = 1
layer (BufferTooShort needed) = 1
layer (InputTooLong limit) = 1

-- the place that a refusal tells, 0 where it has none
abbrev pub place_of : Refusal → ℕ
place_of WindowWidth = 0
place_of DrawWidth = 0
place_of WindowCount = 0
place_of (KeyLength words) = words
place_of (KeyTooLarge bit) = bit
place_of (TooFewDigits words) = words
place_of (TableTooShort cells) = cells
place_of NotAMember = 0
place_of (DrawsExhausted mark) = mark
place_of UnfitDraw = 0
place_of Modulus = 0
place_of (UnknownField offset) = offset
place_of (RecordCutShort size) = size
place_of (FieldOutOfRange offset) = offset
place_of (FieldNeverGiven offset) = offset
place_of (BufferTooShort needed) = needed
place_of (InputTooLong limit) = limit

-- the text of a refusal: "no", the number, the layer and the place
abbrev pub refusal_text : Refusal → List ℕ
refusal_text e = codes "no " ++ decimal (number e) ++ codes " " ++ decimal (layer e) ++ codes " " ++ decimal (place_of e)
