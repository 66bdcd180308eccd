-- The test on keys tells them apart, and what it computes to.
use Rattle.std.proofs.Common.{◌≡◌, ◌==◌, Bool, true, false, ◌&&◌, List, [], ◌∷◌, map, refl, sym, ap, ◌∙◌, subst, true≢false, arith}
use Rattle.std.specs.Str.{bytes_eq}
use Rattle.std.proofs.lemmas.Slice.Eq.{bytes_eq-Decides}
use Rattle.som_model.specs.declared.key.Module.{Module}
use Rattle.som_model.specs.declared.key.Module.TheVariants as m
use Rattle.som_model.specs.declared.key.ClassKey.{ClassKey, out-ClassKey, roll-ClassKey, out-roll-ClassKey, roll-out-ClassKey, ind-ClassKey, fold-roll-ClassKey, map-ClassKey}
use Rattle.som_model.specs.declared.key.ClassKey.TheOpen.{ClassKey-F}
use Rattle.som_model.specs.Keys.{same_module, all_hold, same_step, same_key}

-- a test that tells values apart
pub record Exact {A : Type 0} (same : A → A → Bool) : Type 0 where
  pub one : (x : A) → same x x ≡ true
  pub two : (x y : A) → same x y ≡ true → x ≡ y

pub both : (a b : Bool) → (a && b) ≡ true → (a ≡ true) × (b ≡ true)
both true b h = (refl, h)
both false b h = absurd (true≢false (sym h))

pub exact_bytes : Exact bytes_eq
exact_bytes = record { one = λ x. (bytes_eq-Decides x x).1 refl; two = λ x y h. (bytes_eq-Decides x y).0 h }

pub exact_numbers : Exact ◌==◌
exact_numbers = record { one = λ x. grind arith; two = λ x y h. grind (arith, h) }

same_module_self : (a : Module) → same_module a a ≡ true
same_module_self m.Kernel = refl
same_module_self m.Library = refl
same_module_self (m.Upper n) = exact_numbers.one n
same_module_self m.Client = refl

same_module_true : (a b : Module) → same_module a b ≡ true → a ≡ b
same_module_true m.Kernel m.Kernel h = refl
same_module_true m.Library m.Library h = refl
same_module_true (m.Upper a) (m.Upper b) h = ap m.Upper (exact_numbers.two a b h)
same_module_true m.Client m.Client h = refl
same_module_true m.Kernel m.Library h = absurd (true≢false (sym h))
same_module_true m.Kernel (m.Upper b) h = absurd (true≢false (sym h))
same_module_true m.Kernel m.Client h = absurd (true≢false (sym h))
same_module_true m.Library m.Kernel h = absurd (true≢false (sym h))
same_module_true m.Library (m.Upper b) h = absurd (true≢false (sym h))
same_module_true m.Library m.Client h = absurd (true≢false (sym h))
same_module_true (m.Upper a) m.Kernel h = absurd (true≢false (sym h))
same_module_true (m.Upper a) m.Library h = absurd (true≢false (sym h))
same_module_true (m.Upper a) m.Client h = absurd (true≢false (sym h))
same_module_true m.Client m.Kernel h = absurd (true≢false (sym h))
same_module_true m.Client m.Library h = absurd (true≢false (sym h))
same_module_true m.Client (m.Upper b) h = absurd (true≢false (sym h))

abbrev Told : ClassKey → Type 0
Told a = ((b : ClassKey) → same_key a b ≡ true → a ≡ b) × (same_key a a ≡ true)

abbrev Kept : Type 0
Kept = (a : ClassKey) × Told a

abbrev keys : List Kept → List ClassKey
keys = map (λ e. e.0)

all_told : (ps : List Kept) (ks : List ClassKey) → all_hold (map same_key (keys ps)) ks ≡ true → keys ps ≡ ks
all_told [] [] h = refl
all_told (p ∷ ps) (k ∷ ks) h =
    let e = both (same_key p.0 k) (all_hold (map same_key (keys ps)) ks) h in
    ap (λ x. x ∷ keys ps) (p.1.0 k e.0) ∙ ap (λ l. k ∷ l) (all_told ps ks e.1)
all_told [] (k ∷ ks) h = absurd (true≢false (sym h))
all_told (p ∷ ps) [] h = absurd (true≢false (sym h))

all_self : (ps : List Kept) → all_hold (map same_key (keys ps)) (keys ps) ≡ true
all_self [] = refl
all_self (p ∷ ps) = ap (λ b. b && all_hold (map same_key (keys ps)) (keys ps)) p.1.1 ∙ all_self ps

abbrev bare : ClassKey-F Kept → ClassKey-F ClassKey
bare = map-ClassKey Kept ClassKey (λ e. e.0)

abbrev tests : ClassKey-F ClassKey → ClassKey-F (ClassKey → Bool)
tests = map-ClassKey ClassKey (ClassKey → Bool) same_key

layer_told : (y : ClassKey-F Kept) (z : ClassKey-F ClassKey) → same_step (tests (bare y)) z ≡ true → bare y ≡ z
layer_told (ClassKey-F.Named a x) (ClassKey-F.Named b z) h =
    let e = both (same_module a b) (bytes_eq x z) h in
    ap (λ c. ClassKey-F.Named c x) (same_module_true a b e.0) ∙ ap (λ c. ClassKey-F.Named b c) (exact_bytes.two x z e.1)
layer_told (ClassKey-F.Derived ps) (ClassKey-F.Derived ks) h = ap ClassKey-F.Derived (all_told ps ks h)
layer_told (ClassKey-F.Proxy p) (ClassKey-F.Proxy k) h = ap ClassKey-F.Proxy (p.1.0 k h)
layer_told (ClassKey-F.Named a x) (ClassKey-F.Derived ks) h = absurd (true≢false (sym h))
layer_told (ClassKey-F.Named a x) (ClassKey-F.Proxy k) h = absurd (true≢false (sym h))
layer_told (ClassKey-F.Derived ps) (ClassKey-F.Named b z) h = absurd (true≢false (sym h))
layer_told (ClassKey-F.Derived ps) (ClassKey-F.Proxy k) h = absurd (true≢false (sym h))
layer_told (ClassKey-F.Proxy p) (ClassKey-F.Named b z) h = absurd (true≢false (sym h))
layer_told (ClassKey-F.Proxy p) (ClassKey-F.Derived ks) h = absurd (true≢false (sym h))

layer_self : (y : ClassKey-F Kept) → same_step (tests (bare y)) (bare y) ≡ true
layer_self (ClassKey-F.Named a x) = ap (λ b. b && bytes_eq x x) (same_module_self a) ∙ exact_bytes.one x
layer_self (ClassKey-F.Derived ps) = all_self ps
layer_self (ClassKey-F.Proxy p) = p.1.1

same_is : (x : ClassKey-F ClassKey) (b : ClassKey) → same_key (roll-ClassKey x) b ≡ same_step (tests x) (out-ClassKey b)
same_is x b = ap (λ (f : ClassKey → Bool). f b) (fold-roll-ClassKey (ClassKey → Bool) (λ z k. same_step z (out-ClassKey k)) x)

told_layer : (y : ClassKey-F Kept) → Told (roll-ClassKey (bare y))
told_layer y = (
  (λ b h. ap roll-ClassKey (layer_told y (out-ClassKey b) (sym (same_is (bare y) b) ∙ h)) ∙ roll-out-ClassKey b),
  same_is (bare y) (roll-ClassKey (bare y)) ∙ ap (same_step (tests (bare y))) (out-roll-ClassKey (bare y)) ∙ layer_self y,
)

told : (a : ClassKey) → Told a
told = ind-ClassKey Told (λ x y is. subst (λ z. Told (roll-ClassKey z)) is (told_layer y))

pub exact_keys : Exact same_key
exact_keys = record { one = λ a. (told a).1; two = λ a b. (told a).0 b }
