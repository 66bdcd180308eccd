-- A breach of K3 to K6 tells a name: what is lost or changed is a class that is declared, or an entry.
use Rattle.std.proofs.Common.{◌≡◌, ℕ, ◌≤◌, List, ◌++◌, Option, Some, None, IsSome, slice_get, refl, sym, ap, ◌∙◌, subst, arith}
use Rattle.som_model.specs.declared.key.ClassKey.{ClassKey}
use Rattle.som_model.specs.declared.program.Interface.{Interface}
use Rattle.som_model.specs.Class.{Class}
use Rattle.som_model.specs.Classes.{ancestors, class_at, hierarchy, interface_classes}
use Rattle.som_model.specs.Kernel.{kernel}
use Rattle.som_model.specs.Loads.{IsOrdered}
use Rattle.som_model.specs.Compatible.{CompatBreach, declared_name, layer_name, release_of}
use Rattle.som_model.proofs.NamedLaws.{out_named}
use Rattle.som_model_laws.proofs.Laws.{ancestors as ancestors_are}
use Rattle.som_model_laws.proofs.Lists.{get_mem}
use Rattle.som_model_laws.proofs.Members.{mem_right}
use Rattle.som_model_laws.proofs.Owners.{metaclass_known}
use Rattle.som_model_laws.proofs.Standing.{falls, found, found_is, keyed, known_above, tells}
use Rattle.som_breach_laws.specs.Breaking.{Breaks, IsFirstBreach, lost, older, loses_ancestor, moves_slot, changes_signature, loses_metaclass}

tells_name : (b : CompatBreach) (name : Option (List ℕ)) → b.name ≡ name → IsSome name → IsSome b.name
tells_name b name e some = subst (λ z. IsSome z) (sym e) some

too_low : (b : CompatBreach) (rule : ℕ) → rule ≡ b.rule → 3 ≤ b.rule → 3 ≤ rule
too_low b rule e le = omega (arith, e, le)

module _ (old new : Interface) (o : IsOrdered (interface_classes old)) where
  abbrev O : List Class
  O = release_of old

  -- a class that is known has a name
  has_name : (k : ClassKey) (d : Class) → class_at O k ≡ Some d → IsSome (declared_name k)
  has_name k d e =
      let r = found_is (interface_classes old) o k d e in
      let n = keyed (interface_classes old) o d r.0 in
      let is : declared_name k ≡ Some n.1 = ap declared_name (sym r.1 ∙ n.2) ∙ ap layer_name (out_named n.0 n.1) in
      subst (λ z. IsSome z) (sym is) refl

  of_breaks : (b : CompatBreach) (i : ℕ) (c : Class) → slice_get (interface_classes old) i ≡ Some c → Breaks old new c b → 3 ≤ b.rule → IsSome b.name
  of_breaks b i c at (lost same f) le = let low = too_low b 1 (ap (λ (z : CompatBreach). z.rule) (sym same)) le in absurd (omega (arith, low))
  of_breaks b i c at (older n is k same f) le = let low = too_low b 2 (ap (λ (z : CompatBreach). z.rule) (sym same)) le in absurd (omega (arith, low))
  of_breaks b i c at (loses_ancestor n is k place a same f) le =
      let here = found (interface_classes old) o c c.key (mem_right c kernel (interface_classes old) (get_mem (interface_classes old) i c at)) refl in
      let up = (ancestors_are (hierarchy O) (tells (interface_classes old) o) (falls (interface_classes old) o) c.key a).0 (get_mem (ancestors O c.key) place a f.there) in
      let d = known_above (interface_classes old) o c.key a c here up in
      tells_name b (declared_name a) (ap (λ (z : CompatBreach). z.name) same) (has_name a d.0 d.1)
  of_breaks b i c at (moves_slot n is k place x same f) le = tells_name b (Some x) (ap (λ (z : CompatBreach). z.name) same) refl
  of_breaks b i c at (changes_signature n is k place x same f) le = tells_name b (Some x) (ap (λ (z : CompatBreach). z.name) same) refl
  of_breaks b i c at (loses_metaclass n is k m same has f) le =
      let here = found (interface_classes old) o c c.key (mem_right c kernel (interface_classes old) (get_mem (interface_classes old) i c at)) refl in
      let d = metaclass_known (interface_classes old) o c.key c m here has in
      tells_name b (declared_name m) (ap (λ (z : CompatBreach). z.name) same) (has_name m d.0 d.1)

  pub named_breach : (b : CompatBreach) → IsFirstBreach old new b → 3 ≤ b.rule → IsSome b.name
  named_breach b f = of_breaks b f.number f.class f.there f.breaks
