-- Acts that keep the objects well typed and answer values of which something holds, and that do the same with tests in front of their steps.
use Rattle.std.proofs.Common.{◌≡◌, ℕ, zero, suc, Bool, true, false, if◌then◌else◌, Ok, Err, refl, ap, ◌∙◌}
use Rattle.som_model.specs.declared.program.Fault.{Fault}
use Rattle.som_semantics.specs.World.{World}
use Rattle.som_semantics.specs.State.{Heap, Place, Event, State, Tried}
use Rattle.som_semantics.specs.Runs.{Ran, Goes, Ends, end_of, follow, IsLater, Act}
use Rattle.som_semantics.specs.Acts.{◌>>=◌, ◌>>◌, pure, fault, tried, asked, emit, take_unit, unit_from, reading, become, bounded, Grown, later_self, later_on}
use Rattle.som_type_soundness.specs.Heaps.{AreTyped}
use Rattle.som_type_soundness.specs.Preserving.{Leaves}
use Rattle.som_type_soundness.specs.Checked.{check}

-- what a test answers, if it answers
abbrev pub Answers : {A : Type 0} → Tried A → (A → Type 0) → Type 0
Answers (Ok a) P = P a
Answers (Err f) P = Unit {0}

module _ (w : World) where
  -- from typed objects later than these, the second act does what the first does, and that leaves typed objects and such a value
  pub record Keeps {A : Type 0} (h : Heap) (m n : Act A) (P : A → Heap → Type 0) : Type 0 where
    pub same : (s : State) → IsLater h s.heap → AreTyped w s.heap → n.does s ≡ m.does s
    pub left : (s : State) → IsLater h s.heap → AreTyped w s.heap → Leaves w P (m.does s)

  module _ {A B : Type 0} (h : Heap) (P : A → Heap → Type 0) (Q : B → Heap → Type 0) (k l : A → Act B)
      (next : (a : A) (g : Heap) → IsLater h g → AreTyped w g → P a g → Keeps g (k a) (l a) Q) where
    follow_same : (r : Ran A) → IsLater h (end_of r).heap → Leaves w P r → follow r (λ a. (l a).does) ≡ follow r (λ a. (k a).does)
    follow_same (Goes a s) le p = (next a s.heap le p.0 p.1).same s (later_self s.heap) p.0
    follow_same (Ends c s) le p = refl

    follow_left : (r : Ran A) → IsLater h (end_of r).heap → Leaves w P r → Leaves w Q (follow r (λ a. (k a).does))
    follow_left (Goes a s) le p = (next a s.heap le p.0 p.1).left s (later_self s.heap) p.0
    follow_left (Ends c s) le p = p

    -- one act after another
    pub bind_keeps : (m n : Act A) → Keeps h m n P → Keeps h (m >>= k) (n >>= l) Q
    bind_keeps m n e = record {
      same = λ s le t. ap (λ (r : Ran A). follow r (λ a. (l a).does)) (e.same s le t) ∙ follow_same (m.does s) (later_on h s.heap (end_of (m.does s)).heap le (m.law.later s)) (e.left s le t);
      left = λ s le t. follow_left (m.does s) (later_on h s.heap (end_of (m.does s)).heap le (m.law.later s)) (e.left s le t);
    }

  module _ {A : Type 0} (h : Heap) (P : A → Heap → Type 0) where
    pub pure_keeps : (a : A) → ((g : Heap) → IsLater h g → AreTyped w g → P a g) → Keeps h (pure a) (pure a) P
    pure_keeps a p = record { same = λ s le t. refl; left = λ s le t. (t, p s.heap le t) }

    pub fault_keeps : (f : Fault) (at : Place) → Keeps h (fault f at) (fault f at) P
    fault_keeps f at = record { same = λ s le t. refl; left = λ s le t. t }

    tried_left : (at : Place) (x : Tried A) (s : State) → AreTyped w s.heap → Answers x (λ a. P a s.heap) → Leaves w P ((tried at x).does s)
    tried_left at (Ok a) s t p = (t, p)
    tried_left at (Err f) s t p = t

    pub tried_keeps : (at : Place) (x : Tried A) → ((g : Heap) → IsLater h g → AreTyped w g → Answers x (λ a. P a g)) → Keeps h (tried at x) (tried at x) P
    tried_keeps at x p = record { same = λ s le t. refl; left = λ s le t. tried_left at x s t (p s.heap le t) }

    pub asked_keeps : (at : Place) (test : Heap → Tried A) → ((g : Heap) → IsLater h g → AreTyped w g → Answers (test g) (λ a. P a g)) → Keeps h (asked at test) (asked at test) P
    asked_keeps at test p = record { same = λ s le t. refl; left = λ s le t. tried_left at (test s.heap) s t (p s.heap le t) }

    pub reading_keeps : (k l : Heap → Act A) → ((g : Heap) → IsLater h g → AreTyped w g → Keeps g (k g) (l g) P) → Keeps h (reading k) (reading l) P
    reading_keeps k l e = record {
      same = λ s le t. (e s.heap le t).same s (later_self s.heap) t;
      left = λ s le t. (e s.heap le t).left s (later_self s.heap) t;
    }

    pub bounded_keeps : (m n : ℕ → Act A) (a : Grown m) (b : Grown n) → ((i : ℕ) → Keeps h (m i) (n i) P) → Keeps h (bounded m a) (bounded n b) P
    bounded_keeps m n a b e = record { same = λ s le t. (e s.fuel).same s le t; left = λ s le t. (e s.fuel).left s le t }

    -- with as much of what is known
    pub later_keeps : (g : Heap) (m n : Act A) → IsLater h g → Keeps h m n P → Keeps g m n P
    later_keeps g m n le e = record { same = λ s l t. e.same s (later_on h g s.heap le l) t; left = λ s l t. e.left s (later_on h g s.heap le l) t }

    more_left : (Q : A → Heap → Type 0) (r : Ran A) → IsLater h (end_of r).heap → ((a : A) (g : Heap) → IsLater h g → AreTyped w g → P a g → Q a g) → Leaves w P r → Leaves w Q r
    more_left Q (Goes a s) le f p = (p.0, f a s.heap le p.0 p.1)
    more_left Q (Ends c s) le f p = p

    -- with less of its value
    pub weaker_keeps : (Q : A → Heap → Type 0) (m n : Act A) → ((a : A) (g : Heap) → IsLater h g → AreTyped w g → P a g → Q a g) → Keeps h m n P → Keeps h m n Q
    weaker_keeps Q m n f e = record { same = e.same; left = λ s le t. more_left Q (m.does s) (later_on h s.heap (end_of (m.does s)).heap le (m.law.later s)) f (e.left s le t) }

  -- nothing is known of the value
  abbrev pub Any : {A : Type 0} → A → Heap → Type 0
  Any a h = Unit {0}

  pub emit_keeps : (h : Heap) (e : Event) → Keeps h (emit e) (emit e) Any
  emit_keeps h e = record { same = λ s le t. refl; left = λ s le t. (t, tt) }

  unit_left : (n : ℕ) (s : State) → AreTyped w s.heap → Leaves w Any (unit_from n s)
  unit_left zero s t = t
  unit_left (suc n) s t = (t, tt)

  pub unit_keeps : (h : Heap) → Keeps h take_unit take_unit Any
  unit_keeps h = record { same = λ s le t. refl; left = λ s le t. unit_left s.fuel s t }

  pub become_keeps : (h : Heap) (f : Heap → Heap) (stays : (g : Heap) → IsLater g (f g)) → ((g : Heap) → IsLater h g → AreTyped w g → AreTyped w (f g)) → Keeps h (become f stays) (become f stays) Any
  become_keeps h f stays e = record { same = λ s le t. refl; left = λ s le t. (e s.heap le t, tt) }

  pub if_keeps : {A : Type 0} (h : Heap) (P : A → Heap → Type 0) (b : Bool) (x y m n : Act A) → Keeps h x m P → Keeps h y n P → Keeps h (if b then x else y) (if b then m else n) P
  if_keeps h P true x y m n p q = p
  if_keeps h P false x y m n p q = q

  -- ---- tests that pass

  module _ (otherwise : Act (Unit {0})) {A : Type 0} (h : Heap) (P : A → Heap → Type 0) where
    passed : (b : Bool) (n : Act A) (s : State) → b ≡ true → ((if b then pure tt else otherwise) >>= λ x. n).does s ≡ n.does s
    passed b n s e = ap (λ (z : Bool). ((if z then pure tt else otherwise) >>= λ x. n).does s) e

    pub check_keeps : (holds : Heap → Bool) (m n : Act A) → ((g : Heap) → IsLater h g → AreTyped w g → holds g ≡ true) → Keeps h m n P → Keeps h m (check otherwise holds >> n) P
    check_keeps holds m n p e = record {
      same = λ s le t. passed (holds s.heap) n s (p s.heap le t) ∙ e.same s le t;
      left = e.left;
    }

    value_same : (test : A → Heap → Bool) (r : Ran A) → IsLater h (end_of r).heap → ((a : A) (g : Heap) → IsLater h g → AreTyped w g → P a g → test a g ≡ true) → Leaves w P r
        → follow r (λ a. (check otherwise (test a) >> pure a).does) ≡ r
    value_same test (Goes a s) le f p = passed (test a s.heap) (pure a) s (f a s.heap le p.0 p.1)
    value_same test (Ends c s) le f p = refl

    pub value_keeps : (test : A → Heap → Bool) (m n : Act A) → ((a : A) (g : Heap) → IsLater h g → AreTyped w g → P a g → test a g ≡ true) → Keeps h m n P
        → Keeps h m (n >>= λ a. check otherwise (test a) >> pure a) P
    value_keeps test m n f e = record {
      same = λ s le t. ap (λ (r : Ran A). follow r (λ a. (check otherwise (test a) >> pure a).does)) (e.same s le t)
          ∙ value_same test (m.does s) (later_on h s.heap (end_of (m.does s)).heap le (m.law.later s)) f (e.left s le t);
      left = e.left;
    }
