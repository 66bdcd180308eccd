-- The rules S1 to S3, and what they say of each class.
use Rattle.std.proofs.Common.{◌≡◌, ℕ, inl, inr, Bool, true, List, [], ◌∷◌, ◌++◌, map, flat_map, take, Option, Some, None, is_some, refl, sym, ap, ◌∙◌, subst}
use Rattle.std.specs.Str.{bytes_eq}
use Rattle.som_model.specs.Lists.{Mem, first, doubles, option_list}
use Rattle.som_model.specs.Keys.{same_key}
use Rattle.som_model.specs.Class.{Class}
use Rattle.som_model.specs.Classes.{class_at}
use Rattle.som_model.specs.Kernel.{kernel}
use Rattle.som_model.specs.Conforming.{each_after}
use Rattle.som_model.specs.Rules.{demand, name_of, s1, s2, s3}
use Rattle.som_model.specs.declared.key.ClassKey.{ClassKey}
use Rattle.som_model.proofs.KeyLaws.{exact_bytes, exact_keys}
use Rattle.som_model_laws.proofs.Members.{mem_left, mem_right, mem_split, Apart, apart_doubles}
use Rattle.som_model_laws.proofs.Lists.{every_mem, mem_every}
use Rattle.som_verify_classes.specs.Plainly.{IsAmong, NamesApart, ParentsBefore, ParentsDiffer}
use Rattle.som_verify_classes.proofs.Before.{after_says, demanded, known_mem, mem_known}
use Rattle.som_verify_classes.proofs.PlainLists.{mem_map, map_mem, each_says, says_each, says_after, none_map, map_none, apart_by, fresh_by, apart_after, by_apart, apart_differ, differ_apart, s1_doubles}

pub names_say : (cs : List Class) → first (each_after s1 kernel cs) ≡ None → NamesApart cs
names_say cs e =
    let apart = (s1_doubles kernel cs).0 e in
    record {
      own = apart_differ name_of cs (apart_after bytes_eq exact_bytes (map name_of kernel) (map name_of cs) apart);
      kernels = λ c d m n same. fresh_by bytes_eq exact_bytes (map name_of kernel) (map name_of cs) apart (name_of c) (mem_map name_of c kernel m)
          (subst (λ z. Mem z (map name_of cs)) (sym same) (mem_map name_of d cs n));
    }

pub say_names : (cs : List Class) → NamesApart cs → first (each_after s1 kernel cs) ≡ None
say_names cs rule = (s1_doubles kernel cs).1 (apart_doubles bytes_eq exact_bytes.two (map name_of kernel) (map name_of cs)
    (λ a m n.
    let c = map_mem name_of a kernel m in
    let d = map_mem name_of a cs n in
    rule.kernels c.0 d.0 c.1 d.1 (sym c.2 ∙ d.2))
    (differ_apart name_of cs rule.own))

pub demand_none : (n : ℕ) (c : Class) (b : Bool) → b ≡ true → first (demand n c b) ≡ None
demand_none n c b e = rw e refl

pub option_mem : (o : Option ClassKey) (k : ClassKey) → Mem k (option_list o) → o ≡ Some k
option_mem None k m = absurd m
option_mem (Some x) k (inl e) = ap (λ z. Some z) (sym e)
option_mem (Some x) k (inr m) = absurd m

pub among_known : (cs : List Class) (k : ClassKey) → IsAmong cs k → is_some (class_at cs k) ≡ true
among_known cs k a = mem_known cs k a.class a.there a.named

pub known_among : (cs : List Class) (k : ClassKey) → is_some (class_at cs k) ≡ true → IsAmong cs k
known_among cs k e = let r = known_mem cs k e in record { class = r.0; there = r.1; named = r.2 }

stand_at : (before : List Class) (c : Class) (k : ClassKey) → first (s2 before c) ≡ None → Mem k (c.decl.face.parents ++ option_list c.decl.face.metaclass) → IsAmong before k
stand_at before c k e m =
    known_among before k (every_mem (λ k. is_some (class_at before k)) k (c.decl.face.parents ++ option_list c.decl.face.metaclass) (demanded 2 c _ e) m)

pub parents_say : (cs : List Class) → first (each_after s2 kernel cs) ≡ None → ParentsBefore cs
parents_say cs e = record {
  parents = λ i c k at m. stand_at (kernel ++ take i cs) c k (after_says s2 kernel cs e i c at) (mem_left k c.decl.face.parents (option_list c.decl.face.metaclass) m);
  metaclass = λ i c k at is. stand_at (kernel ++ take i cs) c k (after_says s2 kernel cs e i c at)
      (mem_right k c.decl.face.parents (option_list c.decl.face.metaclass) (subst (λ (o : Option ClassKey). Mem k (option_list o)) (sym is) (inl refl)));
}

pub say_parents : (cs : List Class) → ParentsBefore cs → first (each_after s2 kernel cs) ≡ None
say_parents cs rule = says_after s2 kernel cs (λ i c at.
    demand_none 2 c _ (mem_every (λ k. is_some (class_at (kernel ++ take i cs) k)) (c.decl.face.parents ++ option_list c.decl.face.metaclass)
    (λ k m. elim (mem_split k c.decl.face.parents (option_list c.decl.face.metaclass) m) [
      | inl n ↦ among_known (kernel ++ take i cs) k (rule.parents i c k at n)
      | inr n ↦ among_known (kernel ++ take i cs) k (rule.metaclass i c k at (option_mem c.decl.face.metaclass k n))
    ])))

map_same : {A : Type 0} (xs : List A) → map (λ (x : A). x) xs ≡ xs
map_same [] = refl
map_same (x ∷ xs) = ap (λ z. x ∷ z) (map_same xs)

pub parents_differ_say : (cs : List Class) → first (flat_map s3 cs) ≡ None → ParentsDiffer cs
parents_differ_say cs e = record {
  by = λ c m. apart_differ (λ (k : ClassKey). k) c.decl.face.parents (subst Apart (sym (map_same c.decl.face.parents))
      (apart_by same_key exact_keys c.decl.face.parents (none_map _ (doubles same_key [] c.decl.face.parents) (each_says s3 cs e c m))));
}

pub say_parents_differ : (cs : List Class) → ParentsDiffer cs → first (flat_map s3 cs) ≡ None
say_parents_differ cs rule = says_each s3 cs (λ c m.
    map_none _ (doubles same_key [] c.decl.face.parents) (by_apart same_key exact_keys c.decl.face.parents
    (subst Apart (map_same c.decl.face.parents) (differ_apart (λ (k : ClassKey). k) c.decl.face.parents (rule.by c m)))))
