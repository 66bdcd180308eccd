-- Classes whose moved entries name the classes of their owners break no rule but S1 and S8.
use Rattle.std.proofs.Common.{◌≡◌, ℕ, true, not, ◌&&◌, List, [], ◌++◌, map, flat_map, take, Option, Some, None, refl, sym, ap, ◌∙◌, subst}
use Rattle.std.specs.Str.{bytes_eq}
use Rattle.som_model.specs.declared.key.ClassKey.{ClassKey}
use Rattle.som_model.specs.declared.class.Entry.{Entry}
use Rattle.som_model.specs.declared.class.Entry.TheVariants as entries
use Rattle.som_model.specs.declared.class.Variable.{Variable}
use Rattle.som_model.specs.Lists.{Mem, doubles, every, first, or_else}
use Rattle.som_model.specs.Keys.{same_key}
use Rattle.som_model.specs.Class.{Class}
use Rattle.som_model.specs.Classes.{hierarchy, is_a}
use Rattle.som_model.specs.Kernel.{kernel, som_class}
use Rattle.som_model.specs.Owner.{introduces, owner}
use Rattle.som_model.specs.Rules.{RuleBreach, breach, demand_of, is_known, is_proper, is_value_type, s1, s2, s3, s4, s5, s6, s7, s8, s9, s10}
use Rattle.som_model.specs.Conforming.{each_after, faces_breach}
use Rattle.som_model.specs.Loads.{FacesLoad, keys_of}
use Rattle.som_model.proofs.KeyLaws.{exact_keys}
use Rattle.som_model_laws.proofs.Laws.{descends_test}
use Rattle.som_model_laws.proofs.Lists.{map_mem}
use Rattle.som_model_laws.proofs.Members.{not_true}
use Rattle.som_model_laws.proofs.Standing.{falls, tells}
use Rattle.som_verify_classes.specs.Plainly.{IsAmong}
use Rattle.som_verify_classes.proofs.Outlines.{same_bases, same_parents}
use Rattle.som_verify_classes.proofs.PlainNames.{say_parents}
use Rattle.som_release_laws.proofs.Facing.{demand_of_met, s4_says, says_s4, s5_more}
use Rattle.som_release_laws.proofs.Lists.{both_true, flat_all, flat_at, none_left, both_none}
use Rattle.som_flat_laws.specs.Flat.{class_by_owners, entry_by_owner}
use Rattle.som_flat_laws.proofs.Lists.{none_of}
use Rattle.som_flat_laws.proofs.ByOwners.{descent_by_owners, introduces_by_owners, known_by_owners, names_by_owners, outlines, owned, owner_introduces, owner_other, ref}

none_first : {A : Type 0} (o u : Option A) → o ≡ None → or_else o u ≡ u
none_first o u e = ap (λ z. or_else z u) e

none_last : {A : Type 0} (o u : Option A) → u ≡ None → or_else o u ≡ o
none_last None u e = e
none_last (Some x) u e = refl

-- where no other rule is broken, the first breach is one of S1, or else of S8
two_left : (s_one s_two s_three s_four s_five s_six s_seven s_eight s_nine s_ten : Option RuleBreach)
    → s_two ≡ None → s_three ≡ None → s_four ≡ None → s_five ≡ None → s_six ≡ None → s_seven ≡ None → s_nine ≡ None → s_ten ≡ None
    → or_else (or_else s_one (or_else s_two (or_else s_three s_four))) (or_else s_five (or_else s_six (or_else s_seven (or_else s_eight (or_else s_nine s_ten))))) ≡ or_else s_one s_eight
two_left s_one s_two s_three s_four s_five s_six s_seven s_eight s_nine s_ten b c d e f g i j =
    let names = or_else s_two (or_else s_three s_four) in
    let members = or_else s_six (or_else s_seven (or_else s_eight (or_else s_nine s_ten))) in
    ap (λ o. or_else o (or_else s_five members)) (none_last s_one names (none_first s_two (or_else s_three s_four) b ∙ none_first s_three s_four c ∙ d))
    ∙ ap (or_else s_one) (none_first s_five members e
    ∙ none_first s_six (or_else s_seven (or_else s_eight (or_else s_nine s_ten))) f
    ∙ none_first s_seven (or_else s_eight (or_else s_nine s_ten)) g
    ∙ none_last s_eight (or_else s_nine s_ten) (none_first s_nine s_ten i ∙ j))

abbrev types_of : List Class → Class → Entry → List RuleBreach
types_of known c (entries.Introduced name sig way) = demand_of 5 c name (is_known known sig.result && every (is_value_type known) sig.params)
types_of known c (entries.Moved name to) = []

abbrev moves_up : List Class → Class → Entry → List RuleBreach
moves_up cs c (entries.Introduced name sig way) = []
moves_up cs c (entries.Moved name to) = demand_of 9 c name (is_proper cs c to && introduces cs name to)

among_of : (cs : List Class) (k : ClassKey) → Mem k (keys_of cs) → IsAmong cs k
among_of cs k m = let r = map_mem (λ (c : Class). c.key) k cs m in record { class = r.0; there = r.1; named = sym r.2 }

module _ (cs : List Class) (f : FacesLoad cs) where
  abbrev all : List Class
  all = kernel ++ cs

  abbrev S : Class → Class
  S = class_by_owners all

  -- the kernel, and the classes by owners
  abbrev new : List Class
  new = kernel ++ map S cs

  on_each : (rule : Class → List RuleBreach) → ((c : Class) → Mem c cs → rule (S c) ≡ []) → first (flat_map rule (map S cs)) ≡ None
  on_each rule g = none_of _ (flat_all rule (map S cs) (λ x m. let r = map_mem S x cs m in subst (λ z. rule z ≡ []) (sym r.2) (g r.0 r.1)))

  second : first (each_after s2 kernel (map S cs)) ≡ None
  second =
      ap first (same_bases (map S cs) cs (outlines all cs) kernel)
      ∙ say_parents cs (record {
        parents = λ i c k at m. among_of (kernel ++ take i cs) k (f.ordered.parents i c k at m);
        metaclass = λ i c k at is. among_of (kernel ++ take i cs) k (f.ordered.metaclasses i c k at is);
      })

  pub fourth : (c : Class) → Mem c cs → s4 new (S c) ≡ []
  fourth c m = says_s4 new (S c) (λ k is. descent_by_owners all all k som_class ∙ s4_says all c k (f.descend c m) is)

  own_types : (c : Class) (e : Entry) → types_of all c e ≡ [] → types_of all (S c) (entry_by_owner all c.key e) ≡ []
  own_types c (entries.Introduced name sig way) e = e
  own_types c (entries.Moved name to) e = refl

  types_by_owners : (c : Class) → s5 all c ≡ [] → s5 all (S c) ≡ []
  types_by_owners c e =
      let p = none_left (flat_map (types_of all c) c.decl.face.entries) (flat_map (λ (v : Variable). demand_of 5 c v.name (is_value_type all v.kind)) c.decl.variables) e in
      both_none (flat_map (types_of all (S c)) (map (entry_by_owner all c.key) c.decl.face.entries)) []
      (flat_all (types_of all (S c)) (map (entry_by_owner all c.key) c.decl.face.entries)
      (λ x m. let r = map_mem (entry_by_owner all c.key) x c.decl.face.entries m in
      subst (λ z. types_of all (S c) z ≡ []) (sym r.2) (own_types c r.0 (flat_at (types_of all c) c.decl.face.entries r.0 p.0 r.1)))) refl

  pub fifth : (c : Class) → Mem c cs → s5 new (S c) ≡ []
  fifth c m = s5_more all new (λ k e. known_by_owners all all k ∙ e) (S c) (types_by_owners c (f.types c m))

  pub sixth : (c : Class) → Mem c cs → s6 (S c) ≡ []
  sixth c m = ap (λ l. map (breach 6 c) (doubles bytes_eq [] l)) (names_by_owners all c.key c.decl.face.entries) ∙ f.names c m

  pub proper : (c : Class) (name : List ℕ) (to : ClassKey) → Mem c cs → Mem (entries.Moved name to) c.decl.face.entries → is_proper new (S c) (owner all (ref cs f c.key name)).class ≡ true
  proper c name to m n =
      let o = (owner all (ref cs f c.key name)).class in
      both_true (not (same_key o c.key)) (is_a new c.key o)
      (ap not (not_true (same_key o c.key) (λ t. owner_other cs f c name to m n (exact_keys.two o c.key t))))
      (descent_by_owners all all c.key o ∙ (descends_test (hierarchy all) (tells cs f.ordered) (falls cs f.ordered) c.key o).1 (owned cs f c name to m n).above)

  move_by_owners : (c : Class) (e : Entry) → Mem c cs → Mem e c.decl.face.entries → moves_up new (S c) (entry_by_owner all c.key e) ≡ []
  move_by_owners c (entries.Introduced name sig way) m n = refl
  move_by_owners c (entries.Moved name to) m n =
      let o = (owner all (ref cs f c.key name)).class in
      demand_of_met 9 (S c) name (is_proper new (S c) o && introduces new name o)
      (both_true (is_proper new (S c) o) (introduces new name o) (proper c name to m n) (introduces_by_owners all all name o ∙ owner_introduces cs f c name to m n))

  ninth : (c : Class) → Mem c cs → s9 new (S c) ≡ []
  ninth c m = flat_all (moves_up new (S c)) (map (entry_by_owner all c.key) c.decl.face.entries)
      (λ x n. let r = map_mem (entry_by_owner all c.key) x c.decl.face.entries n in
      subst (λ z. moves_up new (S c) z ≡ []) (sym r.2) (move_by_owners c r.0 m r.1))

  pub breach_by_owners : faces_breach (map S cs) ≡ or_else (first (each_after s1 kernel (map S cs))) (first (flat_map (s8 new) (map S cs)))
  breach_by_owners = two_left (first (each_after s1 kernel (map S cs))) _ _ _ _ _ _ (first (flat_map (s8 new) (map S cs))) _ _
      second
      (none_of _ (same_parents (map S cs) cs (outlines all cs) ∙ flat_all s3 cs f.parents))
      (on_each (s4 new) fourth)
      (on_each (s5 new) fifth)
      (on_each s6 sixth)
      (on_each s7 (λ c m. refl))
      (on_each (s9 new) ninth)
      (on_each (s10 new) (λ c m. refl))
