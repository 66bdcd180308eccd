-- The block of one method, as it is answered, and what must hold for it.
use Rattle.std.proofs.Common.{◌≡◌, ℕ, suc, ◌-◌, ◌<◌, ◌≤◌, inl, inr, Bool, true, false, if◌then◌else◌, List, [], ◌∷◌, length, Option, Some, None, Result, Ok, Err, refl, sym, ap, ◌∙◌, subst, arith}
use Rattle.std.specs.Str.{bytes_eq}
use Rattle.som_model.specs.declared.key.ClassKey.{ClassKey}
use Rattle.som_model.specs.declared.key.MethodRef.{MethodRef}
use Rattle.som_model.specs.declared.syntax.Block.{Block}
use Rattle.som_model.specs.declared.class.Sig.{Sig}
use Rattle.som_model.specs.declared.class.Way.{Way}
use Rattle.som_model.specs.declared.class.Entry.{Entry}
use Rattle.som_model.specs.declared.class.Entry.TheVariants as entries
use Rattle.som_model.specs.declared.class.ClassDecl.{ClassDecl}
use Rattle.som_model.specs.declared.limits.TheConstants.{MAX_PARAMETERS}
use Rattle.som_model.specs.Lists.{Mem, find, first}
use Rattle.som_model.specs.Class.{Class, entry_name, entry_of, introduced_sig}
use Rattle.som_model.specs.Classes.{class_at}
use Rattle.som_model.specs.Keys.{same_key}
use Rattle.som_model.specs.Owner.{owner}
use Rattle.som_model.specs.Typing.{class_facts}
use Rattle.som_ast.specs.declared.body.BodyText.{BodyText}
use Rattle.som_verify_forms.specs.Kinds.{IsDeclared}
use Rattle.som_verify_forms.specs.Knowing.{sig_is_known}
use Rattle.som_verify_classes.specs.Modules.{classes_of}
use Rattle.som_verify_classes.specs.Places.{class_of_place, with_kernel}
use Rattle.som_verify_forms.proofs.Facts.{signature_said}
use Rattle.som_verify_classes.proofs.Finding.{mem_place}
use Rattle.som_sema_drafts.specs.declared.types.Refused.{Refused}
use Rattle.som_elab_body.specs.declared.fault.BodyFault.{BodyFault}
use Rattle.som_elab_body.specs.declared.fault.BodyFault.TheVariants as faults
use Rattle.som_elab.specs.declared.contexts.ModuleContext.{ModuleContext}
use Rattle.som_elab_body.specs.BlockCode.{Stops}
use Rattle.som_elab_methods.specs.Bodies.{texts_for}
use Rattle.som_elab_body.specs.Expressions.{Among}
use Rattle.som_elab_body.specs.Statements.{Told}
use Rattle.som_elab_body.specs.MethodBody.{elaborated_body}
use Rattle.som_elab.specs.Blocks.{Answers, refused_at, text_block}
use Rattle.som_elab.specs.Contexts.{FewParameters, IsModuleContext, classes_in, refused_as}

-- ---- one block

pub fault_told : (class member : List ℕ) (comes : Told Block) (fault : BodyFault) (r : Refused) → Stops comes fault → r ≡ refused_as class member fault → Answers {A = Block} (refused_at class member comes) (Err r)
fault_told class member comes (faults.Rule rule) r t e = rw e (ap (refused_at class member) t)
fault_told class member comes faults.TooManyLocals r t e = rw e (ap (refused_at class member) t)
fault_told class member comes faults.NoMemory r t e = rw e tt

module _ (a : Among) (c : Class) (name : List ℕ) (sig : Sig) where
  pub no_text : (l : List BodyText) → None ≡ first l → text_block a c name sig l ≡ Ok (record { statements = [] })
  no_text [] e = refl
  no_text (b ∷ l) e = absurd (cc)

  pub one_text : (l : List BodyText) (b : BodyText) (r : Result Block Refused) → Some b ≡ first l → Answers (refused_at c.decl.face.name name (elaborated_body a c sig b)) r → Answers (text_block a c name sig l) r
  one_text [] b r e t = absurd (cc)
  one_text (x ∷ l) b r e t = let same : b ≡ x = cc in subst (λ (z : BodyText). Answers (refused_at c.decl.face.name name (elaborated_body a c sig z)) r) same t

-- ---- what must hold

past_kernel : (cs : List Class) (place : ℕ) → IsDeclared (with_kernel cs) place → Mem (class_of_place (with_kernel cs) place) cs
past_kernel cs place d =
    let e : place ≡ suc (suc (suc (suc (place - 4)))) = omega (arith, d.0) in
    let within : place - 4 < length cs = omega (arith, d.0, d.1) in
    subst (λ (z : ℕ). Mem (class_of_place (with_kernel cs) z) cs) (sym e) (mem_place cs (place - 4) within)

module _ (g : ModuleContext) (is : IsModuleContext g) (place : ℕ) (there : IsDeclared (classes_in g) place) (d : ClassDecl) (same : (class_of_place (classes_in g) place).decl ≡ d)
    (name : List ℕ) (sig : Sig) (way : Way) (m : Mem (entries.Introduced name sig way) d.face.entries) where
  own_entry : Mem (entries.Introduced name sig way) (class_of_place (classes_in g) place).decl.face.entries
  own_entry = subst (λ (z : ClassDecl). Mem (entries.Introduced name sig way) z.face.entries) (sym same) m

  -- the signature of a method that a class introduces
  pub entry_sig_known : sig_is_known (classes_in g) sig ≡ true
  entry_sig_known = (is.signatures.by (class_of_place (classes_in g) place) (past_kernel (classes_of g.known.classes.now) place there)).by name sig way own_entry

  pub entry_sig_few : length sig.params ≤ MAX_PARAMETERS
  entry_sig_few = is.few.by (class_of_place (classes_in g) place) name sig way (mem_place (classes_in g) place there.1) own_entry

-- ---- the signature of a method that is overridden

found_mem : {A : Type 0} (test : A → Bool) (xs : List A) (a : A) → find test xs ≡ Some a → Mem a xs
found_mem test [] a e = absurd (cc)
found_mem test (x ∷ xs) a e = by (test x) (found_mem test xs a) e
  where
    by : (b : Bool) → (find test xs ≡ Some a → Mem a xs) → (if b then Some x else find test xs) ≡ Some a → Mem a (x ∷ xs)
    by true f e = inl (let same : a ≡ x = cc in same)
    by false f e = inr (f e)

abbrev entry_in : Option Class → List ℕ → Option Entry
entry_in None name = None
entry_in (Some c) name = entry_of c.decl.face.entries name

few_entry : (cs : List Class) → FewParameters cs → (c : Class) → Mem c cs → (sig : Sig) (name : List ℕ) (o : Option Entry) → entry_of c.decl.face.entries name ≡ o → Some sig ≡ introduced_sig o → length sig.params ≤ MAX_PARAMETERS
few_entry cs few c m sig name None is e = absurd (cc)
few_entry cs few c m sig name (Some (entries.Moved n to)) is e = absurd (cc)
few_entry cs few c m sig name (Some (entries.Introduced n s w)) is e =
    let same : s ≡ sig = cc in
    subst (λ (z : Sig). length z.params ≤ MAX_PARAMETERS) same (few.by c n s w m (found_mem (λ (x : Entry). bytes_eq (entry_name x) name) c.decl.face.entries (entries.Introduced n s w) is))

few_class : (cs : List Class) → FewParameters cs → (k : ClassKey) (sig : Sig) (name : List ℕ) (o : Option Class) → class_at cs k ≡ o → Some sig ≡ introduced_sig (entry_in o name) → length sig.params ≤ MAX_PARAMETERS
few_class cs few k sig name None is e = absurd (cc)
few_class cs few k sig name (Some c) is e = few_entry cs few c (found_mem (λ (x : Class). same_key x.key k) cs c is) sig name (entry_of c.decl.face.entries name) refl e

pub method_sig_few : (cs : List Class) → FewParameters cs → (r : MethodRef) (sig : Sig) → Some sig ≡ (class_facts cs).signature r → length sig.params ≤ MAX_PARAMETERS
method_sig_few cs few r sig e = few_class cs few (owner cs r).class sig (owner cs r).name (class_at cs (owner cs r).class) refl (e ∙ signature_said cs r)

-- the first text for a method is its body
pub text_told : (a : Among) (c : Class) (name : List ℕ) (sig : Sig) (bs : List BodyText) (b : BodyText) (r : Result Block Refused) (class said member : List ℕ) → class ≡ c.decl.face.name → said ≡ name → member ≡ name
    → Some b ≡ first (texts_for bs class said) → Answers (refused_at class member (elaborated_body a c sig b)) r → Answers (text_block a c name sig (texts_for bs c.decl.face.name name)) r
text_told a c name sig bs b r class said member p q m e t =
    one_text a c name sig (texts_for bs c.decl.face.name name) b r
    (e ∙ ap (λ z. first (texts_for bs z said)) p ∙ ap (λ z. first (texts_for bs c.decl.face.name z)) q)
    (subst (λ (z : List ℕ). Answers (refused_at c.decl.face.name z (elaborated_body a c sig b)) r) m (subst (λ (z : List ℕ). Answers (refused_at z member (elaborated_body a c sig b)) r) p t))
