-- The methods that names stand for, by the places of classes.
use Rattle.std.proofs.Common.{◌≡◌, ℕ, zero, suc, ◌-◌, ◌<◌, ◌≤◌, inl, inr, Bool, true, false, if◌then◌else◌, List, [], ◌∷◌, drop, map, length, slice_index_or, Option, Some, None, IfSome, is_some, refl, sym, ap, ◌∙◌, subst, drop-cons, arith}
use Rattle.som_model.specs.declared.key.ClassKey.{ClassKey}
use Rattle.som_model.specs.declared.key.ClassKey.TheVariants as keys
use Rattle.som_model.specs.declared.class.Entry.{Entry}
use Rattle.som_model.specs.declared.class.Entry.TheVariants as entries
use Rattle.std.specs.Str.{bytes_eq}
use Rattle.som_model.specs.Class.{Class, entry_of, introduced, introduced_sig}
use Rattle.som_model.specs.Lists.{Mem, among, find, or_else}
use Rattle.som_model.specs.Owner.{entry_at, introduces}
use Rattle.som_verify_classes.specs.declared.types.Declared.{Declared}
use Rattle.som_verify_classes.specs.Modules.{class_of, classes_of}
use Rattle.som_verify_classes.specs.Places.{face_at, key_at, with_kernel}
use Rattle.som_verify_classes.specs.Along.{introduced_at}
use Rattle.som_verify_classes.specs.Walk.{AreLists}
use Rattle.som_verify_classes.proofs.DeclaredClasses.{long_map}
use Rattle.som_sema_names.specs.Searching.{IsOnly}
use Rattle.som_sema_names.proofs.Noting.{bytes_swap}
use Rattle.som_elab_body.specs.declared.methods.FoundMethod.{FoundMethod}
use Rattle.som_elab_body.specs.Methods.{Method, method_by, method_of}
use Rattle.som_elab_body.specs.Forms.{Finds, first_method, method_at, method_by_entry}

pub none_some : {A : Type 0} {x : A} → None ≡ Some x → ⊥
none_some e = absurd (cc)

-- one class more
method_picked : (cs : List Class) (name : List ℕ) (k : ClassKey) (rest : Option ClassKey) (b : Bool)
    → method_by cs name (if b then Some k else rest) ≡ (if b then method_by_entry k name (entry_at cs k name) else method_by cs name rest)
method_picked cs name k rest true = refl
method_picked cs name k rest false = refl

entry_decides : (name : List ℕ) (k : ClassKey) (e : Option Entry) (rest : Option Method)
    → (if is_some (introduced_sig e) then method_by_entry k name e else rest) ≡ or_else (method_by_entry k name e) rest
entry_decides name k None rest = refl
entry_decides name k (Some (entries.Introduced n sig way)) rest = refl
entry_decides name k (Some (entries.Moved n to)) rest = refl

method_more : (cs : List Class) (name : List ℕ) (k : ClassKey) (ks : List ClassKey)
    → method_by cs name (find (introduces cs name) (k ∷ ks)) ≡ or_else (method_by_entry k name (entry_at cs k name)) (method_by cs name (find (introduces cs name) ks))
method_more cs name k ks =
    method_picked cs name k (find (introduces cs name) ks) (is_some (introduced_sig (entry_at cs k name)))
    ∙ entry_decides name k (entry_at cs k name) (method_by cs name (find (introduces cs name) ks))

module _ (cs : List Class) (all : List (List ℕ)) (lists : AreLists cs all) (name : List ℕ) where
  pub entry_here : (p : ℕ) → p < length cs → entry_at cs (key_at cs p) name ≡ entry_of (face_at cs p).entries name
  entry_here p lt = let e = lists.found p lt in rw e refl

  first_more : (list : List ℕ) (i : ℕ) → i < length list → slice_index_or list i 0 < length cs
      → first_method cs name (drop i list) ≡ or_else (method_by_entry (key_at cs (slice_index_or list i 0)) name (entry_of (face_at cs (slice_index_or list i 0)).entries name)) (first_method cs name (drop (suc i) list))
  first_more list i lt within =
      let p = slice_index_or list i 0 in
      ap (first_method cs name) (drop-cons list i 0 lt)
      ∙ method_more cs name (key_at cs p) (map (key_at cs) (drop (suc i) list))
      ∙ ap (λ e. or_else (method_by_entry (key_at cs p) name e) (first_method cs name (drop (suc i) list))) (entry_here p within)

  -- a class that doesn't introduce the name
  pub first_skips : (list : List ℕ) (i j : ℕ) → j ≡ suc i → i < length list → slice_index_or list i 0 < length cs
      → method_by_entry (key_at cs (slice_index_or list i 0)) name (entry_of (face_at cs (slice_index_or list i 0)).entries name) ≡ None
      → first_method cs name (drop j list) ≡ first_method cs name (drop i list)
  first_skips list i j next lt within none =
      ap (λ z. first_method cs name (drop z list)) next
      ∙ sym (first_more list i lt within ∙ ap (λ o. or_else o (first_method cs name (drop (suc i) list))) none)

  -- the first that does
  pub first_here : (list : List ℕ) (i : ℕ) (m : Method) → i < length list → slice_index_or list i 0 < length cs
      → method_by_entry (key_at cs (slice_index_or list i 0)) name (entry_of (face_at cs (slice_index_or list i 0)).entries name) ≡ Some m
      → first_method cs name (drop i list) ≡ Some m
  first_here list i m lt within is = first_more list i lt within ∙ ap (λ o. or_else o (first_method cs name (drop (suc i) list))) is

  -- a method that a class introduces stands among the names that it introduces
  introduces_entry : (k : ClassKey) (es : List Entry) (m : Method) → method_by_entry k name (entry_of es name) ≡ Some m → among name (introduced es) ≡ true
  introduces_entry k [] m e = absurd (cc)
  introduces_entry k (entries.Introduced n sig way ∷ es) m e = by (bytes_eq n name) refl (introduces_entry k es m) e
    where
      by : (b : Bool) → bytes_eq n name ≡ b → (method_by_entry k name (entry_of es name) ≡ Some m → among name (introduced es) ≡ true)
          → method_by_entry k name (if b then Some (entries.Introduced n sig way) else entry_of es name) ≡ Some m → (if bytes_eq name n then true else among name (introduced es)) ≡ true
      by true is f e = ap (λ (b : Bool). if b then true else among name (introduced es)) (bytes_swap name n ∙ is)
      by false is f e = ap (λ (b : Bool). if b then true else among name (introduced es)) (bytes_swap name n ∙ is) ∙ f e
  introduces_entry k (entries.Moved n to ∷ es) m e = by (bytes_eq n name) (introduces_entry k es m) e
    where
      by : (b : Bool) → (method_by_entry k name (entry_of es name) ≡ Some m → among name (introduced es) ≡ true)
          → method_by_entry k name (if b then Some (entries.Moved n to) else entry_of es name) ≡ Some m → among name (introduced es) ≡ true
      by true f e = absurd (cc)
      by false f e = f e

  abbrev method_there : ℕ → Option Method
  method_there p = method_by_entry (key_at cs p) name (entry_of (face_at cs p).entries name)

  -- the method of the only class that introduces the name is that of the first
  first_only : (list : List ℕ) (p : ℕ) (m : Method) → Mem p list → ((q : ℕ) → Mem q list → among name (introduced_at cs q) ≡ true → q ≡ p) → ((q : ℕ) → Mem q list → q < length cs)
      → method_there p ≡ Some m → first_method cs name list ≡ Some m
  first_only [] p m on only low e = absurd on
  first_only (q ∷ qs) p m on only low e =
      first_more (q ∷ qs) 0 (omega arith) (low q (inl refl))
      ∙ by (method_there q) refl on (λ later. first_only qs p m later (λ r k. only r (inr k)) (λ r k. low r (inr k)) e)
    where
      by : (o : Option Method) → method_there q ≡ o → Mem p (q ∷ qs) → (Mem p qs → first_method cs name qs ≡ Some m) → or_else o (first_method cs name qs) ≡ Some m
      by None is (inl same) f = let both : method_there p ≡ None = ap method_there same ∙ is in absurd (none_some (sym both ∙ e))
      by None is (inr later) f = f later
      by (Some n) is there f = sym is ∙ ap method_there (only q (inl refl) (introduces_entry (key_at cs q) (face_at cs q).entries n is)) ∙ e

  -- what the only class that introduces the name has is the method of the class at a place
  pub only_found : (i p : ℕ) (o : Option FoundMethod) → i < length cs → IsOnly cs (slice_index_or all i []) name p → Finds cs name (method_there p) o
      → IfSome o (λ m. Finds cs name (method_of cs (key_at cs i) name) (Some m))
  only_found i p None lt one f = tt
  only_found i p (Some m) lt one f = (
    subst (λ ks. method_by cs name (find (introduces cs name) ks) ≡ Some (method_at cs name m)) (lists.by i lt)
        (first_only (slice_index_or all i []) p (method_at cs name m) one.on one.only (λ q k. lists.low i q k) f.0),
    f.1,
  )

-- the key of the declared class at a place
pub key_there : (ds : List Declared) (p : ℕ) (d : Declared) → 4 ≤ p → p < length (with_kernel (classes_of ds))
    → keys.Named (slice_index_or ds (p - 4) d).module (slice_index_or ds (p - 4) d).decl.now.face.name ≡ key_at (with_kernel (classes_of ds)) p
key_there ds p d le lt =
    let e : p ≡ suc (suc (suc (suc (p - 4)))) = omega (arith, le) in
    let within : p - 4 < length ds = omega (arith, le, lt, long_map class_of ds) in
    past ds (p - 4) d within ∙ ap (key_at (with_kernel (classes_of ds))) (sym e)
  where
    past : (ds : List Declared) (i : ℕ) (d : Declared) → i < length ds → keys.Named (slice_index_or ds i d).module (slice_index_or ds i d).decl.now.face.name ≡ key_at (classes_of ds) i
    past [] i d lt = absurd (omega arith)
    past (x ∷ ds) zero d lt = refl
    past (x ∷ ds) (suc i) d lt = past ds i d (omega arith)
