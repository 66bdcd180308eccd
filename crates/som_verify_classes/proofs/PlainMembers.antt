-- The rules S5 to S7, and what they say of the members of each class.
use Rattle.std.proofs.Common.{◌≡◌, ℕ, Bool, true, ◌&&◌, List, [], map, flat_map, None, refl, sym, ap, ◌∙◌, subst, true≢false}
use Rattle.std.specs.Str.{bytes_eq}
use Rattle.som_model.specs.Lists.{Mem, first, doubles}
use Rattle.som_model.specs.Class.{Class, entry_name}
use Rattle.som_model.specs.Rules.{demand_of, is_known, is_value_type, s5, s6, s7}
use Rattle.som_model.specs.declared.key.ValueType.{ValueType}
use Rattle.som_model.specs.declared.key.ValueType.TheVariants as types
use Rattle.som_model.specs.declared.class.Entry.{Entry}
use Rattle.som_model.specs.declared.class.Entry.TheVariants as entries
use Rattle.som_model.specs.declared.class.Sig.{Sig}
use Rattle.som_model.specs.declared.class.Variable.{Variable}
use Rattle.som_model.proofs.KeyLaws.{exact_bytes, both}
use Rattle.som_model_laws.proofs.Lists.{every_mem, mem_every}
use Rattle.som_verify_classes.specs.Typed.{sig_types, entry_types, variable_types}
use Rattle.som_verify_classes.specs.Plainly.{IsNamed, IsValue, TypesKnown, EntriesDiffer, VariablesDiffer}
use Rattle.som_verify_classes.proofs.Before.{none_both, both_none}
use Rattle.som_verify_classes.proofs.Owners.{flat_none, demanded_of}
use Rattle.som_verify_classes.proofs.PlainLists.{none_flat, each_says, says_each, none_map, map_none, apart_by, by_apart, apart_differ, differ_apart}
use Rattle.som_verify_classes.proofs.PlainNames.{among_known, known_among}

pub demand_of_none : (n : ℕ) (c : Class) (member : List ℕ) (b : Bool) → b ≡ true → first (demand_of n c member b) ≡ None
demand_of_none n c member b e = rw e refl

known_named : (cs : List Class) (t : ValueType) → is_known cs t ≡ true → IsNamed cs t
known_named cs t e = record { by = λ k is. known_among cs k (subst (λ z. is_known cs z ≡ true) is e) }

pub named_known : (cs : List Class) (t : ValueType) → IsNamed cs t → is_known cs t ≡ true
named_known cs types.Void n = refl
named_known cs types.Long n = refl
named_known cs types.Boolean n = refl
named_known cs types.Str n = refl
named_known cs (types.Class k) n = among_known cs k (n.by k refl)

value_says : (cs : List Class) (t : ValueType) → is_value_type cs t ≡ true → IsValue cs t
value_says cs t e = record {
  not_void = λ is. true≢false (sym e ∙ ap (is_value_type cs) is);
  named = known_named cs t (both _ (is_known cs t) e).1;
}

says_value : (cs : List Class) (t : ValueType) → IsValue cs t → is_value_type cs t ≡ true
says_value cs types.Void n = absurd (n.not_void refl)
says_value cs types.Long n = refl
says_value cs types.Boolean n = refl
says_value cs types.Str n = refl
says_value cs (types.Class k) n = among_known cs k (n.named.by k refl)

pub both_true : (a b : Bool) → a ≡ true → b ≡ true → (a && b) ≡ true
both_true a b e f = rw e f

sig_says : (known cs : List Class) (c : Class) (name : List ℕ) (sig : Sig) (way : _) → first (flat_map (s5 known) cs) ≡ None → Mem c cs
    → Mem (entries.Introduced name sig way) c.decl.face.entries → sig_types known sig ≡ true
sig_says known cs c name sig way e m n =
    let own = none_both (flat_map (entry_types known c) c.decl.face.entries) (flat_map (variable_types known c) c.decl.variables) (each_says (s5 known) cs e c m) in
    demanded_of 5 c name (sig_types known sig) (flat_none (entry_types known c) c.decl.face.entries (entries.Introduced name sig way) own.0 n)

pub types_say : (known cs : List Class) → first (flat_map (s5 known) cs) ≡ None → TypesKnown known cs
types_say known cs e = record {
  results = λ c name sig way m n. known_named known sig.result (both _ _ (sig_says known cs c name sig way e m n)).0;
  params = λ c name sig way t m n k. value_says known t (every_mem (is_value_type known) t sig.params (both _ _ (sig_says known cs c name sig way e m n)).1 k);
  variables = λ c v m n.
      (let own = none_both (flat_map (entry_types known c) c.decl.face.entries) (flat_map (variable_types known c) c.decl.variables) (each_says (s5 known) cs e c m) in
      value_says known v.kind (demanded_of 5 c v.name (is_value_type known v.kind) (flat_none (variable_types known c) c.decl.variables v own.1 n)));
}

entry_has : (known cs : List Class) (c : Class) → TypesKnown known cs → Mem c cs → (e : Entry) → Mem e c.decl.face.entries → first (entry_types known c e) ≡ None
entry_has known cs c rule m (entries.Moved name to) n = refl
entry_has known cs c rule m (entries.Introduced name sig way) n =
    demand_of_none 5 c name (sig_types known sig) (both_true _ _
    (named_known known sig.result (rule.results c name sig way m n))
    (mem_every (is_value_type known) sig.params (λ t k. says_value known t (rule.params c name sig way t m n k))))

pub say_types : (known cs : List Class) → TypesKnown known cs → first (flat_map (s5 known) cs) ≡ None
say_types known cs rule = says_each (s5 known) cs (λ c m.
    both_none (flat_map (entry_types known c) c.decl.face.entries) (flat_map (variable_types known c) c.decl.variables)
    (none_flat (entry_types known c) c.decl.face.entries (entry_has known cs c rule m))
    (none_flat (variable_types known c) c.decl.variables (λ v n.
    demand_of_none 5 c v.name (is_value_type known v.kind) (says_value known v.kind (rule.variables c v m n)))))

pub entries_say : (cs : List Class) → first (flat_map s6 cs) ≡ None → EntriesDiffer cs
entries_say cs e = record {
  by = λ c m. apart_differ entry_name c.decl.face.entries (apart_by bytes_eq exact_bytes (map entry_name c.decl.face.entries)
      (none_map _ (doubles bytes_eq [] (map entry_name c.decl.face.entries)) (each_says s6 cs e c m)));
}

pub say_entries : (cs : List Class) → EntriesDiffer cs → first (flat_map s6 cs) ≡ None
say_entries cs rule = says_each s6 cs (λ c m.
    map_none _ (doubles bytes_eq [] (map entry_name c.decl.face.entries)) (by_apart bytes_eq exact_bytes (map entry_name c.decl.face.entries) (differ_apart entry_name c.decl.face.entries (rule.by c m))))

pub variables_say : (cs : List Class) → first (flat_map s7 cs) ≡ None → VariablesDiffer cs
variables_say cs e = record {
  by = λ c m. apart_differ (λ (v : Variable). v.name) c.decl.variables (apart_by bytes_eq exact_bytes (map (λ (v : Variable). v.name) c.decl.variables)
      (none_map _ (doubles bytes_eq [] (map (λ (v : Variable). v.name) c.decl.variables)) (each_says s7 cs e c m)));
}

pub say_variables : (cs : List Class) → VariablesDiffer cs → first (flat_map s7 cs) ≡ None
say_variables cs rule = says_each s7 cs (λ c m.
    map_none _ (doubles bytes_eq [] (map (λ (v : Variable). v.name) c.decl.variables)) (by_apart bytes_eq exact_bytes (map (λ (v : Variable). v.name) c.decl.variables)
    (differ_apart (λ (v : Variable). v.name) c.decl.variables (rule.by c m))))
