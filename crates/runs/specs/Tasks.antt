-- Tasks as calls, and a run of them. Assumes nothing.
use Rattle.std.specs.Prelude.{◌≡◌, min, List, [], map, length, ℤ, vec_items}
use Rattle.inputs.specs.Rules.{Rule}
use Rattle.recoding.specs.Digits.{zeros}
use Rattle.groups.specs.Groups.{Group}
use Rattle.groups.specs.declared.tally.Tally.{Tally}
use Rattle.multiplier.specs.Calls.{Call, cells_after, entry}
use Rattle.multiplier.specs.Runs.{GoesOn, LawfulCalls, accepted}
use Rattle.runs.specs.declared.task.Ask.{Ask}
use Rattle.runs.specs.declared.task.Task.{Task}

module _ {E R : Type 0} where
  -- the call that a task stands for; a mark past the end of the draws is the end
  abbrev pub call : (R → Rule) → Task E R → Call E
  call rule o = record {
    rule = rule o.ask.rule;
    sizes = o.ask.sizes;
    key = vec_items o.ask.key;
    base = o.ask.base;
    bytes = vec_items o.ask.draws;
    mark = min o.ask.mark (length (vec_items o.ask.draws));
    cells = length (vec_items o.cells);
    words = length (vec_items o.words);
    answer = o.outcome;
    after = o.mark;
  }

  -- the calls of a list of tasks
  abbrev pub calls : (R → Rule) → List (Task E R) → List (Call E)
  calls rule tasks = map (call rule) tasks

  -- what tasks ask
  abbrev pub asks : List (Task E R) → List (Ask E R)
  asks tasks = map (λ o. o.ask) tasks

  -- the words of a task, and as many zeros
  abbrev pub words_of : Task E R → List ℤ
  words_of o = vec_items o.words

  abbrev pub words_left : Task E R → List ℤ
  words_left o = zeros (length (words_of o))

  -- the cells of a task, and what its call leaves in them
  abbrev pub cells_of : Task E R → List E
  cells_of o = vec_items o.cells

  abbrev pub cells_left : (R → Rule) → Group E → Task E R → List E
  cells_left rule g o = cells_after g (call rule o) (cells_of o)

  -- a run takes the device s and the tasks to s' and tasks'
  pub record LawfulRun {S : Type 0} (rule : R → Rule) (group : S → Group E) (tally : S → Tally) (s : S) (tasks : List (Task E R)) (s' : S) (tasks' : List (Task E R)) : Type 0 where
    -- the group and what is asked are the same
    pub same_group : group s' ≡ group s
    pub same_asks : asks tasks' ≡ asks tasks
    -- all words are zeros, the used cells of accepted tasks are neutral, and all other cells as they were
    pub words : map words_of tasks' ≡ map words_left tasks
    pub cells : map cells_of tasks' ≡ map (cells_left rule (group s)) tasks
    -- where all tasks are refused, the device is the very same
    pub as_found : accepted (map entry (calls rule tasks')) ≡ [] → s' ≡ s
    -- the calls, with the answers that stand in the tasks now, are lawful, also after any others
    pub lawful : LawfulCalls (group s) (tally s) (calls rule tasks') (tally s')
    pub goes_on : GoesOn (group s) (tally s) (calls rule tasks') (tally s')
