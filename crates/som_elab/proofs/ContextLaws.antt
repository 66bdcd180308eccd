-- The own classes among all classes.
use Rattle.std.proofs.Common.{◌≡◌, ℕ, zero, suc, ◌+◌, ◌-◌, ◌<◌, ◌≤◌, inl, inr, List, [], ◌∷◌, ◌++◌, length, map, take, drop, flat_map, get_or, slice_index_or, Some, None, refl, sym, ap, ◌∙◌, subst, arith, length-append}
use Rattle.som_model.specs.declared.key.Module.{Module}
use Rattle.som_model.specs.declared.class.Entry.TheVariants as entries
use Rattle.som_model.specs.declared.class.ClassDecl.{ClassDecl}
use Rattle.som_model.specs.Lists.{Mem, first, or_else}
use Rattle.som_model.specs.Class.{Class, class_in}
use Rattle.som_model.specs.Conforming.{first_of_members, first_of_names}
use Rattle.som_model.specs.Kernel.{kernel}
use Rattle.som_model.specs.Rules.{RuleBreach, s5}
use Rattle.som_model_laws.proofs.Members.{mem_split}
use Rattle.som_verify_types.specs.Bodies.{AllSigsKnown}
use Rattle.som_verify_classes.specs.Faces.{classes_breach}
use Rattle.som_verify_forms.specs.Kinds.{IsDeclared}
use Rattle.som_verify_forms.specs.Knowing.{IsKnowledge, all_of}
use Rattle.som_verify_classes.specs.Modules.{classes_of}
use Rattle.som_verify_classes.specs.Places.{class_of_place, nobody, with_kernel}
use Rattle.som_verify_classes.specs.declared.types.Declared.{Declared}
use Rattle.som_verify_classes.proofs.Before.{none_both}
use Rattle.som_verify_forms.proofs.KindLists.{item_mem}
use Rattle.som_verify_classes.proofs.DeclaredClasses.{long_map}
use Rattle.som_verify_forms.proofs.NamesKnown.{declared_sig}
use Rattle.som_verify_classes.proofs.Owners.{flat_none}
use Rattle.som_verify_classes.proofs.Conformity.{or_none}
use Rattle.som_verify_classes.proofs.PlainLists.{map_mem, mem_map}
use Rattle.som_verify_classes.proofs.PlainMembers.{types_say}
use Rattle.som_elab_methods.specs.Limits.{class_limits, entry_limits, limit_passed}
use Rattle.som_sema_drafts.specs.Drafts.{InterfaceDraft, plain_drafts, plain_draft, draft_classes}
use Rattle.som_sema_drafts.specs.Items.{or_object}
use Rattle.som_sema_drafts.specs.declared.drafts.Draft.{Draft}
use Rattle.som_elab_methods.proofs.LimitLaws.{few_parameters, few_parents, few_variables, limits_law}
use Rattle.som_elab_body.specs.Code.{ClassFits}
use Rattle.som_model.specs.declared.limits.TheConstants.{MAX_PARENTS, MAX_VARIABLES}
use Rattle.som_sema_names.specs.Searching.{IsSearch}
use Rattle.som_elab.specs.declared.contexts.ModuleContext.{ModuleContext}
use Rattle.som_elab.specs.Contexts.{FewParameters, IsUnlimitedContext, StandAfterOthers, IsModuleContext}

-- ---- signatures are of known types

module _ (cs : List Class) (n : ℕ) (rules : classes_breach n cs ≡ None) where
  abbrev base_types : List RuleBreach
  base_types = flat_map (s5 (kernel ++ take n cs)) (take n cs)

  abbrev own_types : List RuleBreach
  own_types = flat_map (s5 (kernel ++ cs)) (drop n cs)

  pub names_kept : first_of_names kernel cs ≡ None
  names_kept = (or_none (first_of_names kernel cs) (or_else (first (base_types ++ own_types)) (first_of_members kernel cs)) rules).0

  types_kept : first (base_types ++ own_types) ≡ None
  types_kept =
      (or_none (first (base_types ++ own_types)) (first_of_members kernel cs)
      (or_none (first_of_names kernel cs) (or_else (first (base_types ++ own_types)) (first_of_members kernel cs)) rules).1).0

  pub signatures_known : AllSigsKnown (with_kernel cs) cs
  signatures_known = record {
    by = λ c m. record {
      by = λ name sig way k. declared_sig n cs
          (types_say (kernel ++ take n cs) (take n cs) (none_both base_types own_types types_kept).0)
          (types_say (with_kernel cs) (drop n cs) (none_both base_types own_types types_kept).1) c name sig way m k;
    };
  }

-- ---- and have few parameters

kernel_few : FewParameters kernel
kernel_few = record {
  by = λ c name sig way m k. few_parameters c.decl.face.entries (flat_none (λ (c : Class). flat_map entry_limits c.decl.face.entries) kernel c refl m) name sig way k;
}

own_few : (m : Module) (ds : List InterfaceDraft) → limit_passed ds ≡ None → FewParameters (map (class_in m) (draft_classes ds))
own_few m ds e = record {
  by = λ c name sig way k n.
      (let r = map_mem (class_in m) c (draft_classes ds) k in
      let s = map_mem (λ (d : InterfaceDraft). d.class) r.0 ds r.1 in
      let kept = (limits_law ds).0 e in
      kept.parameters s.0 name sig way s.1
      (subst (λ (z : ClassDecl). Mem (entries.Introduced name sig way) z.face.entries) s.2 (subst (λ (z : Class). Mem (entries.Introduced name sig way) z.decl.face.entries) r.2 n)));
}

both_few : (xs ys : List Class) → FewParameters xs → FewParameters ys → FewParameters (xs ++ ys)
both_few xs ys f g = record {
  by = λ c name sig way m k. elim (mem_split c xs ys m) [
    | inl n ↦ f.by c name sig way n k
    | inr n ↦ g.by c name sig way n k
  ];
}

pub all_few : (m : Module) (cs : List Class) (ds : List InterfaceDraft) → StandAfterOthers m cs ds → limit_passed ds ≡ None → FewParameters (with_kernel cs)
all_few m cs ds f e =
    both_few kernel cs kernel_few
    (subst FewParameters (sym f.are) (both_few f.front (map (class_in m) (draft_classes ds)) f.few (own_few m ds e)))

-- ---- where the own classes stand

past_front : (xs ys : List Class) (i : ℕ) → slice_index_or (xs ++ ys) (length xs + i) nobody ≡ slice_index_or ys i nobody
past_front [] ys i = let e : 0 + i ≡ i = omega arith in ap (λ n. slice_index_or ys n nobody) e
past_front (x ∷ xs) ys i = let e : length (x ∷ xs) + i ≡ suc (length xs + i) = omega arith in ap (λ n. slice_index_or (x ∷ xs ++ ys) n nobody) e ∙ past_front xs ys i

own_at : (m : Module) (ds : List Draft) (i : ℕ) (d : Draft) → i < length ds → d ≡ get_or ds i d → slice_index_or (map (class_in m) (draft_classes (plain_drafts ds))) i nobody ≡ class_in m d.decl
own_at m [] i d lt is = absurd (omega arith)
own_at m (y ∷ ds) zero d lt is = ap (λ (z : Draft). class_in m z.decl) (sym is)
own_at m (y ∷ ds) (suc i) d lt is = own_at m ds i d (omega arith) is

pub front_long : (m : Module) (cs : List Class) (ds : List Draft) → (f : StandAfterOthers m cs (plain_drafts ds)) → length cs ≡ length f.front + length ds
front_long m cs ds f =
    let own = map (class_in m) (draft_classes (plain_drafts ds)) in
    let parts : length cs ≡ length f.front + length own = ap length f.are ∙ length-append f.front own in
    omega (arith, parts, long_map (class_in m) (draft_classes (plain_drafts ds)), long_map (λ (d : InterfaceDraft). d.class) (plain_drafts ds), long_map plain_draft ds)

module _ (m : Module) (cs : List Class) (ds : List Draft) (f : StandAfterOthers m cs (plain_drafts ds)) (i : ℕ) (d : Draft) (place : ℕ) (lt : i < length ds) (is : d ≡ get_or ds i d)
    (at : place ≡ length cs - length ds + 4 + i) where
  place_is : place ≡ suc (suc (suc (suc (length f.front + i))))
  place_is = omega (arith, at, front_long m cs ds f)

  pub own_declared : IsDeclared (with_kernel cs) place
  own_declared = (omega (arith, place_is), omega (arith, place_is, front_long m cs ds f, lt))

  pub own_class : class_of_place (with_kernel cs) place ≡ class_in m d.decl
  own_class =
      ap (class_of_place (with_kernel cs)) place_is
      ∙ ap (λ z. slice_index_or z (length f.front + i) nobody) f.are
      ∙ past_front f.front (map (class_in m) (draft_classes (plain_drafts ds))) i
      ∙ own_at m ds i d lt is

-- a class of these passes no limit, and so its variables and parents have places of one byte
pub own_within : (ds : List Draft) (i : ℕ) (d : Draft) → i < length ds → d ≡ get_or ds i d → limit_passed (plain_drafts ds) ≡ None → first (class_limits (plain_draft d)) ≡ None
own_within ds i d lt is e = flat_none class_limits (plain_drafts ds) (plain_draft d) e (mem_map plain_draft d ds (item_mem ds i d lt is))

pub own_fits : (cs : List Class) (m : Module) (ds : List Draft) (i : ℕ) (d : Draft) (place : ℕ) → i < length ds → d ≡ get_or ds i d → limit_passed (plain_drafts ds) ≡ None → class_of_place cs place ≡ class_in m d.decl → ClassFits cs (Some place)
own_fits cs m ds i d place lt is e at =
    let within = own_within ds i d lt is e in
    subst (λ (c : Class). (length c.decl.variables ≤ MAX_VARIABLES) × (length c.decl.face.parents ≤ MAX_PARENTS)) (sym at) (few_variables (plain_draft d) within, few_parents (plain_draft d) within)

pub parents_fit : (m : Module) (cs : List Class) (ds : List Draft) → StandAfterOthers m cs (plain_drafts ds) → (i : ℕ) (d : Draft) → i < length ds → d ≡ get_or ds i d → limit_passed (plain_drafts ds) ≡ None
    → length (or_object d.text.now.parents) ≤ 255
parents_fit m cs ds f i d lt is e =
    let few = few_parents (plain_draft d) (own_within ds i d lt is e) in
    let same = f.parents.by (plain_draft d) (mem_map plain_draft d ds (item_mem ds i d lt is)) in
    omega (arith, few, same)

-- ---- what is known within the limits

pub within_context : (g : ModuleContext) (ds : List InterfaceDraft) → IsUnlimitedContext g ds → limit_passed ds ≡ None → IsModuleContext g
within_context g ds b e = record { known = b.known; signatures = b.signatures; few = all_few g.scope.now.module (classes_of g.known.classes.now) ds b.stand e; search = b.search }

pub basis_of : (g : ModuleContext) (n : ℕ) (ds : List InterfaceDraft) → IsKnowledge g.known → classes_breach n (classes_of g.known.classes.now) ≡ None
    → StandAfterOthers g.scope.now.module (classes_of g.known.classes.now) ds → IsSearch (all_of g.known) g.known.lists.now g.search → IsUnlimitedContext g ds
basis_of g n ds known rules stand search = record { known = known; signatures = signatures_known (classes_of g.known.classes.now) n rules; stand = stand; search = search }
