-- Who owns a method, and what its signature is.
use Rattle.std.specs.Prelude.{ℕ, zero, suc, Bool, List, [], Option, Some, None, is_some}
use Rattle.som_model.specs.declared.key.ClassKey.{ClassKey}
use Rattle.som_model.specs.declared.key.MethodRef.{MethodRef}
use Rattle.som_model.specs.declared.class.Sig.{Sig}
use Rattle.som_model.specs.declared.class.Entry.{Entry}
use Rattle.som_model.specs.declared.class.Entry.TheVariants as entries
use Rattle.som_model.specs.Class.{Class, entry_of, introduced, introduced_sig}
use Rattle.som_model.specs.Classes.{class_at, hierarchy}

abbrev entry_in : Option Class → List ℕ → Option Entry
entry_in None name = None
entry_in (Some c) name = entry_of c.decl.face.entries name

-- the entry that a class has for a name
abbrev pub entry_at : List Class → ClassKey → List ℕ → Option Entry
entry_at cs k name = entry_in (class_at cs k) name

-- one step: to where the entry was moved, if it was
abbrev moved_from : Option Entry → Option ClassKey
moved_from None = None
moved_from (Some (entries.Introduced name sig way)) = None
moved_from (Some (entries.Moved name to)) = Some to

abbrev owner_from : (ClassKey → MethodRef) → MethodRef → Option ClassKey → MethodRef
owner_from further r None = r
owner_from further r (Some to) = further to

abbrev pub owner_within : List Class → ℕ → MethodRef → MethodRef
owner_within cs zero r = r
owner_within cs (suc n) r = owner_from (λ to. owner_within cs n (record { class = to; name = r.name })) r (moved_from (entry_at cs r.class r.name))

-- (I, m) where I introduces m, and else the owner of (J, m) where I's entry m was moved to J; moves go up, so as many steps as I is high are all
abbrev pub owner : List Class → MethodRef → MethodRef
owner cs r = owner_within cs ((hierarchy cs).height r.class) r

-- the signature that a class introduces for a name
abbrev pub sig_of : List Class → MethodRef → Option Sig
sig_of cs r = introduced_sig (entry_at cs r.class r.name)

-- whether a class introduces a name
abbrev pub introduces : List Class → List ℕ → ClassKey → Bool
introduces cs name k = is_some (sig_of cs (record { class = k; name = name }))

abbrev pub introduced_in : Option Class → List (List ℕ)
introduced_in None = []
introduced_in (Some c) = introduced c.decl.face.entries

-- the names that a class introduces, in order
abbrev pub introduced_by : List Class → ClassKey → List (List ℕ)
introduced_by cs k = introduced_in (class_at cs k)
