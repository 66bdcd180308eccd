-- What is known of classes, by their places.
use Rattle.std.proofs.Common.{◌≡◌, ℕ, zero, suc, ◌<◌, ◌≤◌, ◌-◌, true, false, List, [], ◌∷◌, length, flat_map, slice_index_or, option_copied, IfSome, Bor, arith, Option, Some, None, is_some, refl, sym, ap, ◌∙◌}
use Rattle.som_model.specs.declared.key.ClassKey.{ClassKey}
use Rattle.som_model.specs.declared.key.MethodRef.{MethodRef}
use Rattle.som_model.specs.declared.class.Sig.{Sig}
use Rattle.som_model.specs.declared.class.Way.{Way}
use Rattle.som_model.specs.declared.class.Entry.{Entry}
use Rattle.som_model.specs.declared.class.Entry.TheVariants as entries
use Rattle.som_model.specs.Class.{Class, entry_of, introduced_sig}
use Rattle.som_model.specs.Classes.{class_at}
use Rattle.som_model.specs.Lists.{first}
use Rattle.som_model.specs.Owner.{entry_at, sig_of}
use Rattle.som_model.specs.Rules.{s9}
use Rattle.som_model.specs.Typing.{class_facts}
use Rattle.som_verify_classes.specs.declared.types.Declared.{Declared}
use Rattle.som_verify_forms.specs.Knowing.{NamesKnown, sig_is_known}
use Rattle.som_verify_classes.specs.Modules.{class_of, classes_of}
use Rattle.som_verify_classes.specs.Places.{Finds, IsTable, class_of_place, face_at, key_at, with_kernel}
use Rattle.som_verify_classes.specs.Walk.{AreLists}
use Rattle.som_verify_classes.proofs.DeclaredClasses.{long_map}
use Rattle.som_verify_classes.proofs.Descending.{is_a_none}
use Rattle.som_verify_forms.proofs.Facts.{descent_said, owner_said, signature_said}
use Rattle.som_verify_classes.proofs.Finding.{known_at_all}
use Rattle.som_verify_classes.specs.Inherited.{moved_to}
use Rattle.som_verify_classes.proofs.Owners.{entry_there, entry_unknown, owner_here, owner_moved, owner_unknown}

-- no class descends from one that isn't known
pub descends_from_none : (cs : List Class) (all : List (List ℕ)) (x : ℕ) (k : ClassKey) → AreLists cs all → x < length cs → Finds (length cs) cs k None → false ≡ (class_facts cs).is_a (key_at cs x) k
descends_from_none cs all x k lists lt f = sym (descent_said cs (key_at cs x) k ∙ is_a_none cs all lists x (length cs) lt k refl f)

unknown : (o : Option Class) → false ≡ is_some o → o ≡ None
unknown None e = refl
unknown (Some c) e = absurd (cc)

module _ (cs : List Class) (names : List (List ℕ)) (t : IsTable cs names) (r m : MethodRef) (owned : m ≡ (class_facts (with_kernel cs)).owner r) where
  entry_owned : entry_at (with_kernel cs) m.class m.name ≡ entry_at (with_kernel cs) ((class_facts (with_kernel cs)).owner r).class ((class_facts (with_kernel cs)).owner r).name
  entry_owned = ap (λ (z : MethodRef). entry_at (with_kernel cs) z.class z.name) owned

  owner_signed : introduced_sig (entry_at (with_kernel cs) m.class m.name) ≡ (class_facts (with_kernel cs)).signature r
  owner_signed =
      ap introduced_sig entry_owned
      ∙ ap (λ (z : MethodRef). introduced_sig (entry_at (with_kernel cs) z.class z.name)) (owner_said (with_kernel cs) r)
      ∙ sym (signature_said (with_kernel cs) r)

  -- the signature is that of the owner's entry
  pub signature_there : (p : ℕ) → p < length (with_kernel cs) → key_at (with_kernel cs) p ≡ m.class → introduced_sig (entry_of (face_at (with_kernel cs) p).entries m.name) ≡ (class_facts (with_kernel cs)).signature r
  signature_there p lt is =
      ap introduced_sig (sym (entry_there cs names t p m.name lt) ∙ ap (λ k. entry_at (with_kernel cs) k m.name) is) ∙ owner_signed

  -- an owner that isn't known has none
  pub no_signature : Finds (length (with_kernel cs)) (with_kernel cs) m.class None → None ≡ (class_facts (with_kernel cs)).signature r
  no_signature f =
      ap introduced_sig (sym (entry_unknown (with_kernel cs) m.class m.name (unknown (class_at (with_kernel cs) m.class) (known_at_all (with_kernel cs) m.class (length (with_kernel cs)) None refl f)))) ∙ owner_signed

-- a signature that a class introduces is of types that are known
pub signature_known : (cs : List Class) (known : NamesKnown cs) (p : ℕ) (name : List ℕ) (o : Option (Bor Sig)) → p < length cs → option_copied o ≡ introduced_sig (entry_of (face_at cs p).entries name)
    → IfSome o (λ s. sig_is_known cs s.now ≡ true)
signature_known cs known p name None lt e = tt
signature_known cs known p name (Some s) lt e = known.signatures p name s.now lt (sym e)

-- the declared class at a place
pub decl_there : (ds : List Declared) (p : ℕ) (d : Declared) → 4 ≤ p → p < length (with_kernel (classes_of ds)) → (slice_index_or ds (p - 4) d).decl.now ≡ (class_of_place (with_kernel (classes_of ds)) p).decl
decl_there ds p d le lt =
    let e : p ≡ suc (suc (suc (suc (p - 4)))) = omega (arith, le) in
    let within : p - 4 < length ds = omega (arith, le, lt, long_map class_of ds) in
    past ds (p - 4) d within ∙ ap (λ z. (class_of_place (with_kernel (classes_of ds)) z).decl) (sym e)
  where
    past : (ds : List Declared) (i : ℕ) (d : Declared) → i < length ds → (slice_index_or ds i d).decl.now ≡ (class_of_place (classes_of ds) i).decl
    past [] i d lt = absurd (omega arith)
    past (x ∷ ds) zero d lt = refl
    past (x ∷ ds) (suc i) d lt = past ds i d (omega arith)

module _ (cs : List Class) (names : List (List ℕ)) (t : IsTable cs names) (r : MethodRef) where
  -- a method of a class that isn't known has no signature
  pub signed_nowhere : Finds (length (with_kernel cs)) (with_kernel cs) r.class None → None ≡ (class_facts (with_kernel cs)).signature r
  signed_nowhere f = no_signature cs names t r r (sym (owner_said (with_kernel cs) r ∙ owner_unknown (with_kernel cs) r (length (with_kernel cs)) refl f)) f

  -- the signature of an entry that wasn't moved
  pub signed_here : (p : ℕ) → p < length (with_kernel cs) → key_at (with_kernel cs) p ≡ r.class → moved_to (entry_of (face_at (with_kernel cs) p).entries r.name) ≡ None
      → introduced_sig (entry_of (face_at (with_kernel cs) p).entries r.name) ≡ (class_facts (with_kernel cs)).signature r
  signed_here p lt is e = signature_there cs names t r r (sym (owner_said (with_kernel cs) r ∙ owner_here cs names t p r lt is e)) p lt is

  -- the signature of a moved entry is that which the class introduces to which it was moved
  pub signed_above : first (flat_map (s9 (with_kernel cs)) cs) ≡ None → (p : ℕ) (to : ClassKey) → p < length (with_kernel cs) → key_at (with_kernel cs) p ≡ r.class
      → moved_to (entry_of (face_at (with_kernel cs) p).entries r.name) ≡ Some to → sig_of (with_kernel cs) (record { class = to; name = r.name }) ≡ (class_facts (with_kernel cs)).signature r
  signed_above holds p to lt is e = sym (signature_said (with_kernel cs) r ∙ ap (sig_of (with_kernel cs)) (owner_moved cs names t holds p r to lt is e))

module _ (cs : List Class) (names : List (List ℕ)) (t : IsTable cs names) (r : MethodRef) (p : ℕ) (lt : p < length (with_kernel cs)) (is : key_at (with_kernel cs) p ≡ r.class) where
  pub signed_none : entry_of (face_at (with_kernel cs) p).entries r.name ≡ None → None ≡ (class_facts (with_kernel cs)).signature r
  signed_none q = ap introduced_sig (sym q) ∙ signed_here cs names t r p lt is (ap moved_to q)

  pub signed_introduced : (x : Entry) (n : List ℕ) (sig : Sig) (way : Way) → entry_of (face_at (with_kernel cs) p).entries r.name ≡ Some x → x ≡ entries.Introduced n sig way → Some sig ≡ (class_facts (with_kernel cs)).signature r
  signed_introduced x n sig way q e =
      let there : entry_of (face_at (with_kernel cs) p).entries r.name ≡ Some (entries.Introduced n sig way) = q ∙ ap (λ z. Some z) e in
      ap introduced_sig (sym there) ∙ signed_here cs names t r p lt is (ap moved_to there)

  pub signed_moved : first (flat_map (s9 (with_kernel cs)) cs) ≡ None → (x : Entry) (n : List ℕ) (to : ClassKey) → entry_of (face_at (with_kernel cs) p).entries r.name ≡ Some x → x ≡ entries.Moved n to
      → sig_of (with_kernel cs) (record { class = to; name = r.name }) ≡ (class_facts (with_kernel cs)).signature r
  signed_moved holds x n to q e = signed_above cs names t r holds p to lt is (ap moved_to (q ∙ ap (λ z. Some z) e))

-- the signature that a class introduces, by its key
pub sig_there : (cs : List Class) (names : List (List ℕ)) → IsTable cs names → (k : ClassKey) (name : List ℕ) (p : ℕ) → p < length (with_kernel cs) → key_at (with_kernel cs) p ≡ k
    → introduced_sig (entry_of (face_at (with_kernel cs) p).entries name) ≡ sig_of (with_kernel cs) (record { class = k; name = name })
sig_there cs names t k name p lt is = ap introduced_sig (sym (entry_there cs names t p name lt) ∙ ap (λ z. entry_at (with_kernel cs) z name) is)

pub sig_nowhere : (cs : List Class) (k : ClassKey) (name : List ℕ) → Finds (length cs) cs k None → None ≡ sig_of cs (record { class = k; name = name })
sig_nowhere cs k name f = ap introduced_sig (sym (entry_unknown cs k name (unknown (class_at cs k) (known_at_all cs k (length cs) None refl f))))
