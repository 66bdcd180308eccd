-- Entries whose signatures are compared place by place, and through their owners.
use Rattle.std.proofs.Common.{◌≡◌, ℕ, zero, suc, ◌+◌, ◌<◌, inl, inr, Bool, true, false, if◌then◌else◌, List, [], ◌∷◌, map, length, Some, None, slice_get, refl, sym, ap, ◌∙◌, subst, true≢false}
use Rattle.std.specs.Str.{bytes_eq}
use Rattle.som_model.specs.declared.key.ClassKey.{ClassKey}
use Rattle.som_model.specs.declared.key.MethodRef.{MethodRef}
use Rattle.som_model.specs.declared.class.Entry.{Entry}
use Rattle.som_model.specs.declared.class.Entry.TheVariants as entries
use Rattle.som_model.specs.declared.class.ClassFace.{ClassFace}
use Rattle.som_model.specs.Lists.{Mem, first}
use Rattle.som_model.specs.Same.{same_option, same_sig}
use Rattle.som_model.specs.Class.{Class, entry_name, entry_of, introduced_sig}
use Rattle.som_model.specs.Classes.{hierarchy}
use Rattle.som_model.specs.Owner.{entry_at, owner, owner_within, sig_of}
use Rattle.som_model.specs.Compatible.{failing, first_changed, signature, incompatible, k4, k5}
use Rattle.som_model.proofs.KeyLaws.{exact_bytes}
use Rattle.som_verify_classes.specs.Inherited.{moved_to}
use Rattle.som_verify_classes.specs.Places.{key_at, face_at}
use Rattle.som_verify_classes.specs.Plainly.{Differ}
use Rattle.som_verify_classes.proofs.Falling.{mem_there}
use Rattle.som_compat.specs.Conditions.{Conforms}
use Rattle.som_compat.specs.Views.{interface, classes_of, shown, IsShown}
use Rattle.som_compat.specs.Told.{entry_sig, changed}
use Rattle.som_compat.proofs.Known.{IsKnown}
use Rattle.som_compat.proofs.Viewing.{known_of}
use Rattle.som_compat.proofs.Transitive.{mem_get}
use Rattle.som_compat.proofs.Plain.{map_empty}

-- an entry is the one of its name, where names differ
find_by : (x e : Entry) (es : List Entry) (b : Bool) → bytes_eq (entry_name x) (entry_name e) ≡ b → (entry_name x ≡ entry_name e → x ≡ e) → (Mem e es → entry_of es (entry_name e) ≡ Some e) → Mem e (x ∷ es)
    → (if b then Some x else entry_of es (entry_name e)) ≡ Some e
find_by x e es true t one f m = ap (λ z. Some z) (one (exact_bytes.two _ _ t))
find_by x e es false t one f (inl is) = absurd (true≢false (sym (ap (λ z. bytes_eq (entry_name z) (entry_name e)) (sym is) ∙ exact_bytes.one (entry_name e)) ∙ t))
find_by x e es false t one f (inr k) = f k

find_here : (es : List Entry) (e : Entry) → ((a : Entry) → Mem a es → entry_name a ≡ entry_name e → a ≡ e) → Mem e es → entry_of es (entry_name e) ≡ Some e
find_here [] e f m = absurd m
find_here (x ∷ es) e f m = find_by x e es (bytes_eq (entry_name x) (entry_name e)) refl (f x (inl refl)) (find_here es e (λ a n. f a (inr n))) m

differ_one : (es : List Entry) → Differ entry_name es → (a e : Entry) → Mem a es → Mem e es → entry_name a ≡ entry_name e → a ≡ e
differ_one es d a e ma me same =
    let i = mem_get es a ma in
    let j = mem_get es e me in
    let at = d.by i.0 j.0 a e i.1 j.1 same in
    let both : Some a ≡ Some e = sym i.1 ∙ ap (slice_get es) at ∙ j.1 in
    cc

stays : (cs : List Class) (n : ℕ) (r : MethodRef) → moved_to (entry_at cs r.class r.name) ≡ None → owner_within cs n r ≡ r
stays cs zero r e = refl
stays cs (suc n) r e = rw e refl

moves : (cs : List Class) (n : ℕ) (r : MethodRef) (to : ClassKey) → moved_to (entry_at cs r.class r.name) ≡ Some to
    → owner_within cs (suc n) r ≡ owner_within cs n (record { class = to; name = r.name })
moves cs n r to e = rw e refl

module _ (cs : List Class) (known : IsKnown cs) where
  entry_there : (p : ℕ) (e : Entry) → p < length cs → Mem e (face_at cs p).entries → entry_at cs (key_at cs p) (entry_name e) ≡ Some e
  entry_there p e lt m =
      let f = known.found p lt in
      rw f (find_here (face_at cs p).entries e (λ a n. differ_one (face_at cs p).entries (known.differ p lt) a e n m) m)

  -- the signature of an entry, through its owner
  pub signature_is : (p : ℕ) (e : Entry) → p < length cs → Mem e (face_at cs p).entries → signature cs (key_at cs p) (entry_name e) ≡ entry_sig cs e
  signature_is p (entries.Introduced name sig way) lt m =
      let r : MethodRef = record { class = key_at cs p; name = name } in
      let at = entry_there p (entries.Introduced name sig way) lt m in
      let own : owner cs r ≡ r = stays cs ((hierarchy cs).height (key_at cs p)) r (ap moved_to at) in
      ap (sig_of cs) own ∙ ap introduced_sig at
  signature_is p (entries.Moved name to) lt m =
      let r : MethodRef = record { class = key_at cs p; name = name } in
      let at = entry_there p (entries.Moved name to) lt m in
      let i = known.moved p name to lt m in
      let q = mem_there cs i.class i.there in
      let e2 : Entry = entries.Introduced name i.sig i.way in
      let in_q : Mem e2 (face_at cs q.0).entries = subst (λ (c : Class). Mem e2 c.decl.face.entries) (sym q.2) i.entry in
      let key : key_at cs q.0 ≡ to = ap (λ (c : Class). c.key) q.2 ∙ i.named in
      let at_to : entry_at cs to name ≡ Some e2 = ap (λ k. entry_at cs k name) (sym key) ∙ entry_there q.0 e2 q.1 in_q in
      let s : MethodRef = record { class = to; name = name } in
      let own : owner cs r ≡ s = ap (λ n. owner_within cs n r) (known.height p lt) ∙ moves cs p r to (ap moved_to at) ∙ stays cs p s (ap moved_to at_to) in
      ap (sig_of cs) own

-- what K5 looks at, name by name, is what the entries say, place by place
same_by : (olds news : List Class) (test : List ℕ → Bool) (n : ℕ) (x y : Entry) (xs ys : List Entry) (b : Bool) → test (entry_name x) ≡ b → same_option same_sig (entry_sig olds x) (entry_sig news y) ≡ b
    → failing test (n + 1) (map entry_name xs) ≡ changed olds news (n + 1) xs ys → failing test n (entry_name x ∷ map entry_name xs) ≡ changed olds news n (x ∷ xs) (y ∷ ys)
same_by olds news test n x y xs ys true e f rest = rw (e, f) rest
same_by olds news test n x y xs ys false e f rest = rw (e, f) (ap (λ z. (entry_name x, n) ∷ z) rest)

not_strayed : (b : Bool) (x : List ℕ) (n : ℕ) (rest : List (List ℕ × ℕ)) → (if b then rest else (x, n) ∷ []) ≡ [] → (b ≡ true) × (rest ≡ [])
not_strayed true x n rest e = (refl, e)
not_strayed false x n rest e = absurd (cc)

changed_is : (olds news : List Class) (k : ClassKey) (xs ys : List Entry) (n : ℕ)
    → ((e : Entry) → Mem e xs → signature olds k (entry_name e) ≡ entry_sig olds e) → ((e : Entry) → Mem e ys → signature news k (entry_name e) ≡ entry_sig news e)
    → first_changed n (map entry_name xs) (map entry_name ys) ≡ []
    → failing (λ name. same_option same_sig (signature olds k name) (signature news k name)) n (map entry_name xs) ≡ changed olds news n xs ys
changed_is olds news k [] ys n f g e = refl
changed_is olds news k (x ∷ xs) [] n f g e = absurd (cc)
changed_is olds news k (x ∷ xs) (y ∷ ys) n f g e =
    let s = not_strayed (bytes_eq (entry_name x) (entry_name y)) (entry_name x) n (first_changed (n + 1) (map entry_name xs) (map entry_name ys)) e in
    let name = exact_bytes.two _ _ s.0 in
    let in_new : signature news k (entry_name x) ≡ entry_sig news y = ap (signature news k) name ∙ g y (inl refl) in
    let test : same_option same_sig (signature olds k (entry_name x)) (signature news k (entry_name x)) ≡ same_option same_sig (entry_sig olds x) (entry_sig news y) =
    ap (λ z. same_option same_sig z (signature news k (entry_name x))) (f x (inl refl)) ∙ ap (same_option same_sig (entry_sig olds x)) in_new in
    same_by olds news (λ name. same_option same_sig (signature olds k name) (signature news k name)) n x y xs ys _ test refl
    (changed_is olds news k xs ys (n + 1) (λ a m. f a (inr m)) (λ a m. g a (inr m)) s.1)

pub k5_is : (olds news : List ClassFace) (f g : ClassFace) → Conforms (interface olds) → Conforms (interface news) → IsShown olds news f g → first (k4 (shown f) (shown g)) ≡ None
    → first (k5 (classes_of olds) (classes_of news) (shown f)) ≡ first (map (λ p. incompatible 5 (shown f) (Some p.0) p.1) (changed (classes_of olds) (classes_of news) 0 f.entries g.entries))
k5_is olds news f g old_ok new_ok pair order =
    let O = classes_of olds in
    let N = classes_of news in
    let key_old : key_at O pair.place ≡ (shown f).key = ap (λ (c : Class). c.key) pair.old_one in
    let key_new : key_at N pair.other ≡ (shown f).key = ap (λ (c : Class). c.key) pair.new_one ∙ pair.same in
    ap (λ z. first (map (λ p. incompatible 5 (shown f) (Some p.0) p.1) z))
    (changed_is O N (shown f).key f.entries g.entries 0
    (λ e m. ap (λ k. signature O k (entry_name e)) (sym key_old) ∙ signature_is O (known_of olds old_ok) pair.place e pair.within (subst (λ (c : Class). Mem e c.decl.face.entries) (sym pair.old_one) m))
    (λ e m. ap (λ k. signature N k (entry_name e)) (sym key_new) ∙ signature_is N (known_of news new_ok) pair.other e pair.other_within (subst (λ (c : Class). Mem e c.decl.face.entries) (sym pair.new_one) m))
    (map_empty _ _ order))
