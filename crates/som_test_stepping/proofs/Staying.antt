-- A task that went on, and another beside it.
use Rattle.std.proofs.Common.{◌≡◌, ℕ, ◌+◌, ◌≤◌, Bool, true, Result, Ok, Err, List, [], ◌++◌, length, Option, sym, subst, ◌∙◌, arith}
use Rattle.std.specs.Prelude.{OnOk}
use Rattle.som_model.specs.declared.key.ClassKey.{ClassKey}
use Rattle.som_model.specs.declared.syntax.Block.{Block}
use Rattle.som_meta.specs.Numbering.{Numbering}
use Rattle.som_objects.specs.Objects.{Objects}
use Rattle.som_values.specs.Shown.{IsMade}
use Rattle.som_interp_state.specs.Settings.{Linked}
use Rattle.som_interp_state.specs.Stored.{Spares}
use Rattle.som_interp_loop.specs.Scene.{Scene, scene}
use Rattle.som_interp_task.specs.declared.advanced.Advanced.{Advanced}
use Rattle.som_interp_task.specs.declared.advanced.Advanced.TheVariants as answers
use Rattle.som_interp_task.specs.declared.task.Task.{Task}
use Rattle.som_interp_task.specs.Advance.{Comes, IfGoing}
use Rattle.som_interp_task.specs.Stands.{Stands, StandsAnywhere}
use Rattle.som_interp_task.proofs.Sparing.{stands_still}
use Rattle.som_exec.specs.Going.{is_going}
use Rattle.som_tasks.proofs.Sparing as sparing
use Rattle.som_test_stepping.specs.Beside.{AreBeside, CanGoOn}

-- what holds after a call holds where it answers a value
pub on_ok : {T E P : Type 0} (r : Result T E) → P → OnOk r P
on_ok (Ok x) p = p
on_ok (Err e) p = tt

-- a task that is live after an advance stands
still_going : (answer : Advanced) (P : Type 0) → IfGoing answer P → is_going answer ≡ true → P
still_going answers.Going P p is = p
still_going answers.Done P p is = absurd (let z = is in cc)
still_going (answers.SourceFault fault at) P p is = absurd (let z = is in cc)
still_going answers.SinkFailed P p is = absurd (let z = is in cc)
still_going answers.NoMemory P p is = absurd (let z = is in cc)

module _ (l l' : Linked) (known known' : Numbering) (main main' : Block) (made made' : ClassKey → Bool) (os os' : Objects) (t t' : Task) (units : ℕ) (shows : List ℕ → Bool) (prefix : List ℕ) (before after : Option (List ℕ)) (answer : Advanced) where
  abbrev old : Scene
  old = scene l known main made os t.task 0

  abbrev new : Scene
  new = scene l' known' main' made' os' t'.task 0

  module _ (x : Comes old units shows prefix before after new answer) (live : t'.live ≡ is_going answer) where
    can_go_on : CanGoOn l' known' main' made' os' t'
    can_go_on is = still_going answer (Stands new) x.stands (sym live ∙ is)

    left : sparing.Leaves t.task.serials t'.task.serials os os'
    left = sparing.leaves old new units shows prefix before after answer x

    module _ (was : t.live ≡ true) (other : Task) (b : AreBeside l known main made os t other) where
      given : other.live ≡ true → (n : ℕ) → IsMade other.task.serials n → n ≤ length os
      given is n m = (b.other_one is).stands.at.around.holding.serials.given n m

      spares : other.live ≡ true → Spares other.task.serials os os'
      spares is = sparing.spared t.task.serials t'.task.serials os os' left other.task.serials (given is) (b.apart was is)

      other_stands : CanGoOn l' known' main' made' os' other
      other_stands is =
          subst (λ z. Stands (scene z known' main' made' os' other.task 0)) (sym x.keeps.linked)
          (subst (λ z. Stands (scene l z main' made' os' other.task 0)) (sym x.keeps.classes)
          (subst (λ z. Stands (scene l known z made' os' other.task 0)) (sym x.keeps.main)
          (stands_still (scene l known main made os other.task 0) os' made' (spares is) x.keeps_made (b.other_one is))))

      still_apart : other.live ≡ true → (n : ℕ) → IsMade t'.task.serials n → IsMade other.task.serials n → ⊥
      still_apart is = sparing.still_apart t.task.serials t'.task.serials os os' left other.task.serials (given is) (b.apart was is)

      beside : AreBeside l' known' main' made' os' t' other
      beside = record { one = can_go_on; other_one = other_stands; apart = λ here is n. still_apart is n }

    -- it can be gone on with, where a call after it answers a value
    pub can_go_on_ok : {T E : Type 0} (r : Result T E) → OnOk r (CanGoOn l' known' main' made' os' t')
    can_go_on_ok r = on_ok r can_go_on

    pub beside_ok : {T E : Type 0} (r : Result T E) → t.live ≡ true → OnOk r ((other : Task) → AreBeside l known main made os t other → AreBeside l' known' main' made' os' t' other)
    beside_ok (Ok x) was = λ other b. beside was other b
    beside_ok (Err e) was = tt

-- two tasks beside each other, the other one first
pub turned : (l : Linked) (known : Numbering) (main : Block) (made : ClassKey → Bool) (os : Objects) (t other : Task) → AreBeside l known main made os t other → AreBeside l known main made os other t
turned l known main made os t other b = record { one = b.other_one; other_one = b.one; apart = λ is was n k m. b.apart was is n m k }

-- two tasks that were just started
pub at_first : (l : Linked) (known : Numbering) (main : Block) (made : ClassKey → Bool) (os : Objects) (t other : Task) → StandsAnywhere l known main made t → StandsAnywhere l known main made other → t.task.serials ≡ []
    → AreBeside l known main made os t other
at_first l known main made os t other p q none = record {
  one = λ is. p os;
  other_one = λ is. q os;
  apart = λ was is n m k. (let lt : IsMade [] n = subst (λ xs. IsMade xs n) none m in let f : ⊥ = omega (arith, lt) in f);
}
