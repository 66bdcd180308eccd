use Rattle.std.proofs.Common.{◌≡◌, ◌+◌, subst, arith, sym}
use Rattle.som_model.specs.declared.limits.TheConstants.{MAX_DEPTH}
use Rattle.som_semantics.specs.Means.{beginning}
use Rattle.som_code.specs.Machine.{ComesTo}
use Rattle.som_machine_laws.specs.Tested.{tested_in}
use Rattle.som_machine_laws.specs.Step.{main_frames, step}
use Rattle.som_machine_laws.proofs.Called.{main_comes}
use Rattle.som_machine_laws.proofs.Task.{stands_granted, stands_on, stands_over, stands_ends, stands_shows, stands_objects}
use Rattle.som_machine_laws.proofs.frame_laws.stands_law.Goals as goal

pub returns-clause-start : goal.returns-clause-start
returns-clause-start c w tests main = record {
  by = λ f.
      let e : 0 + f ≡ f = omega arith in
      subst (λ n. ComesTo (step w tests) (main_frames MAX_DEPTH main) (beginning w n) (tested_in w tests main n)) (sym e) (main_comes w tests MAX_DEPTH main (beginning w f));
}

pub returns-clause-granted : goal.returns-clause-granted
returns-clause-granted c w tests means fs s n u h = stands_granted (step w tests) means fs s n h u

pub returns-clause-on : goal.returns-clause-on
returns-clause-on c w tests means fs gs s t n h e = stands_on (step w tests) means fs s n h gs t e

pub returns-clause-over : goal.returns-clause-over
returns-clause-over c w tests means fs s t n h e = stands_over (step w tests) means fs s n h (tt {0}) t e

pub returns-clause-ends : goal.returns-clause-ends
returns-clause-ends c w tests means fs s t n x h e = stands_ends (step w tests) means fs s n h x t e

pub returns-clause-shows : goal.returns-clause-shows
returns-clause-shows c w tests means fs s n h = stands_shows (step w tests) means fs s n h

pub returns-clause-objects : goal.returns-clause-objects
returns-clause-objects c w tests means fs s n h = stands_objects (step w tests) means fs s n h
