-- The bodies that are left, from one hook to the next.
use Rattle.std.proofs.Common.{◌≡◌, ℕ, zero, suc, ◌+◌, ◌<◌, ◌≤◌, false, List, [], ◌∷◌, length, map, take, get_or, reverse, min, nat_le, Bool, true, ◌-◌, Option, Some, None, slice_get, refl, sym, ap, ◌∙◌, subst, arith}
use Rattle.som_model.specs.declared.key.ClassKey.{ClassKey}
use Rattle.som_model.specs.declared.key.MethodRef.{MethodRef}
use Rattle.som_model.specs.Kernel.{before_method, after_method}
use Rattle.som_model.specs.Implementation.{Held}
use Rattle.som_semantics.specs.State.{Str, To, ClassObject}
use Rattle.som_semantics.specs.State as state
use Rattle.som_semantics.specs.Calls.{Request}
use Rattle.som_semantics.specs.Means.{hooks_of}
use Rattle.som_machine_laws.specs.Frames.{Invocation}
use Rattle.som_machine_laws.specs.CallBodies.{with_held, with_hooks}
use Rattle.som_values.specs.Shown.{key_of}
use Rattle.som_interp_state.specs.declared.call.Stage.TheVariants as stages
use Rattle.som_interp_state.specs.Settings.{Linked}
use Rattle.som_interp_state.specs.Standing.{bodies_left}
use Rattle.som_interp_state.proofs.Stages.{after_next, before_next, before_past}
use Rattle.som_interp_state.specs.declared.held_body.BodyView.{BodyView}
use Rattle.som_interp_state.specs.Asked.{held_shown}
use Rattle.som_interp_dispatch.specs.declared.chosen.Role.{Role}
use Rattle.som_interp_dispatch.specs.declared.chosen.Role.TheVariants as roles
use Rattle.som_interp_state.specs.Named.{IsTokenOf}
use Rattle.som_interp_dispatch.specs.Chosen.{AreHooks, IsFirst, IsLast, IsOwn, invoked, view_invoked}

get_map : (f : ℕ → ClassKey) (ns : List ℕ) (p d : ℕ) → p < length ns → slice_get (map f ns) p ≡ Some (f (get_or ns p d))
get_map f [] p d lt = absurd (omega (arith, lt))
get_map f (n ∷ ns) zero d lt = refl
get_map f (n ∷ ns) (suc p) d lt = get_map f ns p d (omega (arith, lt))

length_map : (f : ℕ → ClassKey) (ns : List ℕ) → length (map f ns) ≡ length ns
length_map f [] = refl
length_map f (n ∷ ns) = ap (λ z. suc z) (length_map f ns)

take_past : {A : Type 0} (n : ℕ) (xs : List A) → length xs ≤ n → take n xs ≡ take (length xs) xs
take_past zero [] le = refl
take_past (suc n) [] le = refl
take_past zero (x ∷ xs) le = absurd (omega (arith, le))
take_past (suc n) (x ∷ xs) le = ap (λ z. x ∷ z) (take_past n xs (omega (arith, le)))

module _ (l : Linked) (x : ClassKey) (q : Request) (ns : List ℕ) (are : AreHooks l x q ns) where
  -- the hook at a place
  hook_at : (p n : ℕ) → p < length ns → n ≡ get_or ns p n → slice_get (hooks_of l.world x q) p ≡ Some (key_of l.keys n)
  hook_at p n lt e = ap (λ z. slice_get z p) (sym are) ∙ get_map (key_of l.keys) ns p n lt ∙ ap (λ z. Some (key_of l.keys z)) (sym e)

  many : length (hooks_of l.world x q) ≡ length ns
  many = ap length (sym are) ∙ length_map (key_of l.keys) ns

  -- a body that a hook has, as the definition invokes it
  as_viewed : (role : Role) (n : ℕ) (t : ℕ × ℕ) (r : MethodRef) (v : BodyView) → IsTokenOf l r t → IsOwn l n t v → invoked x q role r (key_of l.keys n) (held_shown r.name v.held) ≡ view_invoked l x q role v
  as_viewed role n t r v token own =
      ap (λ (z : MethodRef). invoked x q role z (key_of l.keys n) (held_shown z.name v.held)) (sym token.method ∙ ap l.method (sym own.method))
      ∙ ap (λ z. invoked x q role (l.method v.method) (key_of l.keys z) (held_shown (l.method v.method).name v.held)) (sym own.class)

  held_is : (n : ℕ) (t : ℕ × ℕ) (r : MethodRef) (v : BodyView) → IsTokenOf l r t → IsOwn l n t v → l.world.held (key_of l.keys n) r ≡ Some (held_shown r.name v.held)
  held_is n t r v token own = subst (λ (z : MethodRef). l.world.held (key_of l.keys n) z ≡ Some (held_shown z.name v.held)) token.method own.held

  held_none : (n : ℕ) (t : ℕ × ℕ) (r : MethodRef) → IsTokenOf l r t → l.world.held (key_of l.keys n) (l.method t) ≡ None → l.world.held (key_of l.keys n) r ≡ None
  held_none n t r token none = ap (l.world.held (key_of l.keys n)) (sym token.method) ∙ none

  -- ---- before

  abbrev before_by : ClassKey → Option Held → List Invocation → List Invocation
  before_by k o rest = with_held state.Before before_method (ClassObject x) (To q.self ∷ Str q.method.name ∷ []) false k o rest

  pub before_none : (p n : ℕ) (t : ℕ × ℕ) → p < length ns → n ≡ get_or ns p n → IsTokenOf l before_method t → l.world.held (key_of l.keys n) (l.method t) ≡ None
      → bodies_left l.world x q (stages.Before p) ≡ bodies_left l.world x q (stages.Before (p + 1))
  before_none p n t lt is token none =
      let k = key_of l.keys n in
      before_next l.world x q p k (hook_at p n lt is) ∙ ap (λ o. before_by k o (bodies_left l.world x q (stages.Before (p + 1)))) (held_none n t before_method token none)

  pub before_some : (p n : ℕ) (t : ℕ × ℕ) (v : BodyView) → p < length ns → n ≡ get_or ns p n → IsTokenOf l before_method t → IsOwn l n t v
      → bodies_left l.world x q (stages.Before p) ≡ view_invoked l x q roles.Before v ∷ bodies_left l.world x q (stages.Before (p + 1))
  before_some p n t v lt is token own =
      let k = key_of l.keys n in
      before_next l.world x q p k (hook_at p n lt is) ∙ ap (λ o. before_by k o (bodies_left l.world x q (stages.Before (p + 1)))) (held_is n t before_method v token own)
      ∙ ap (λ i. i ∷ bodies_left l.world x q (stages.Before (p + 1))) (as_viewed roles.Before n t before_method v token own)

  pub before_done : (p : ℕ) → length ns ≤ p → bodies_left l.world x q (stages.Before p) ≡ bodies_left l.world x q stages.Method
  before_done p le = let e = many in before_past l.world x q p (omega (arith, e, le))

  -- ---- after

  abbrev after_by : ClassKey → Option Held → List Invocation → List Invocation
  after_by k o rest = with_held state.After after_method (ClassObject x) (To q.self ∷ Str q.method.name ∷ []) false k o rest

  pub after_none : (p n : ℕ) (t : ℕ × ℕ) → p < length ns → n ≡ get_or ns p n → IsTokenOf l after_method t → l.world.held (key_of l.keys n) (l.method t) ≡ None
      → bodies_left l.world x q (stages.After (p + 1)) ≡ bodies_left l.world x q (stages.After p)
  after_none p n t lt is token none =
      let k = key_of l.keys n in
      after_next l.world x q p k (hook_at p n lt is) ∙ ap (λ o. after_by k o (bodies_left l.world x q (stages.After p))) (held_none n t after_method token none)

  pub after_some : (p n : ℕ) (t : ℕ × ℕ) (v : BodyView) → p < length ns → n ≡ get_or ns p n → IsTokenOf l after_method t → IsOwn l n t v
      → bodies_left l.world x q (stages.After (p + 1)) ≡ view_invoked l x q roles.After v ∷ bodies_left l.world x q (stages.After p)
  after_some p n t v lt is token own =
      let k = key_of l.keys n in
      after_next l.world x q p k (hook_at p n lt is) ∙ ap (λ o. after_by k o (bodies_left l.world x q (stages.After p))) (held_is n t after_method v token own)
      ∙ ap (λ i. i ∷ bodies_left l.world x q (stages.After p)) (as_viewed roles.After n t after_method v token own)

  -- more than all hooks are all
  pub after_all : (n : ℕ) → length ns ≤ n → bodies_left l.world x q (stages.After n) ≡ bodies_left l.world x q (stages.After (length ns))
  after_all n le =
      let e = many in
      ap (λ ks. with_hooks l.world state.After after_method (ClassObject x) (To q.self ∷ Str q.method.name ∷ []) (reverse ks) [])
      (take_past n (hooks_of l.world x q) (omega (arith, e, le)) ∙ ap (λ z. take z (hooks_of l.world x q)) many)

  -- ---- what a loop over hooks finds

  pub first_found : (from p n : ℕ) (t : ℕ × ℕ) (v : BodyView) → p < length ns → n ≡ get_or ns p n → IsTokenOf l before_method t → IsOwn l n t v
      → bodies_left l.world x q (stages.Before from) ≡ bodies_left l.world x q (stages.Before p) → IsFirst l x q from (p, v)
  first_found from p n t v lt is token own passed = record { first = passed ∙ before_some p n t v lt is token own }

  one_less : (m : ℕ) → 0 < m → (m - 1) + 1 ≡ m
  one_less m lt = omega (arith, lt)

  pub last_passed : (m n : ℕ) (t : ℕ × ℕ) → 0 < m → m ≤ length ns → n ≡ get_or ns (m - 1) n → IsTokenOf l after_method t → l.world.held (key_of l.keys n) (l.method t) ≡ None
      → bodies_left l.world x q (stages.After m) ≡ bodies_left l.world x q (stages.After (m - 1))
  last_passed m n t lt le is token none =
      ap (λ z. bodies_left l.world x q (stages.After z)) (sym (one_less m lt)) ∙ after_none (m - 1) n t (omega (arith, lt, le)) is token none

  pub last_found : (count m n : ℕ) (t : ℕ × ℕ) (v : BodyView) → 0 < m → m ≤ length ns → n ≡ get_or ns (m - 1) n → IsTokenOf l after_method t → IsOwn l n t v
      → bodies_left l.world x q (stages.After count) ≡ bodies_left l.world x q (stages.After m) → IsLast l x q count (m - 1, v)
  last_found count m n t v lt le is token own passed = record {
    others = passed ∙ ap (λ z. bodies_left l.world x q (stages.After z)) (sym (one_less m lt));
    last = after_some (m - 1) n t v (omega (arith, lt, le)) is token own;
  }

  pub all_hooks : (count m : ℕ) → m ≡ min count (length ns) → bodies_left l.world x q (stages.After count) ≡ bodies_left l.world x q (stages.After m)
  all_hooks count m e = by (nat_le count (length ns)) refl
    where
      by : (b : Bool) → nat_le count (length ns) ≡ b → bodies_left l.world x q (stages.After count) ≡ bodies_left l.world x q (stages.After m)
      by true f = let same : m ≡ count = grind (arith, e, f) in ap (λ z. bodies_left l.world x q (stages.After z)) (sym same)
      by false f = let same : m ≡ length ns = grind (arith, e, f) in let more : length ns ≤ count = grind (arith, f) in after_all count more ∙ ap (λ z. bodies_left l.world x q (stages.After z)) (sym same)

-- in an empty list nothing has a place
pub none_there : (ns : List ℕ) (p : ℕ) → p < length ns → ns ≡ [] → ⊥
none_there ns p lt e = let none = ap length e in omega (arith, lt, none)
