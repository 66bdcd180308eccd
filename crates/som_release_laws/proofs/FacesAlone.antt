-- Classes of which the faces alone are left have the same owners, signatures and metaclasses.
use Rattle.std.proofs.Common.{◌≡◌, ℕ, zero, suc, Bool, true, false, not, ◌&&◌, if◌then◌else◌, nat_lt, List, [], ◌∷◌, ◌++◌, map, Option, Some, None, refl, sym, ap, ◌∙◌}
use Rattle.std.proofs.Math.Path.{fun_ext}
use Rattle.std.specs.Prelude.{unwrap_or}
use Rattle.som_model.specs.declared.key.ClassKey.{ClassKey, out-ClassKey, fold-ClassKey}
use Rattle.som_model.specs.declared.key.ClassKey.TheVariants as keys
use Rattle.som_model.specs.declared.key.ClassKey.TheOpen.{ClassKey-F}
use Rattle.som_model.specs.declared.key.MethodRef.{MethodRef}
use Rattle.som_model.specs.Lists.{firsts, place_from, some, without}
use Rattle.som_model.specs.Keys.{same_key}
use Rattle.som_model.specs.Class.{Class, introduced_sig}
use Rattle.som_model.specs.Classes.{class_at, height_step, hierarchy, parents_by, parents_in, parents_of}
use Rattle.som_model.specs.Kernel.{som_class}
use Rattle.som_model.specs.Metaclass.{is_low, lowest, meta, meta_within, rank_step}
use Rattle.som_model.specs.Owner.{entry_at, owner, owner_within, sig_of}
use Rattle.som_model.specs.Compatible.{signature}
use Rattle.som_verify_classes.proofs.FacesOnly.{face_only, is_a_faces}
use Rattle.som_model_laws.proofs.Metas.{declared_in, made}
use Rattle.som_model_laws.proofs.Owners.{entry_is, entry_unknown, moved_to, moves, stays}

abbrev in_face : Option Class → Option Class
in_face None = None
in_face (Some c) = Some (face_only c)

pub faces_at : (cs : List Class) (k : ClassKey) → class_at (map face_only cs) k ≡ in_face (class_at cs k)
faces_at [] k = refl
faces_at (c ∷ cs) k = by (same_key c.key k) (class_at (map face_only cs) k) (class_at cs k) (faces_at cs k)
  where
    by : (b : Bool) (o p : Option Class) → o ≡ in_face p → (if b then Some (face_only c) else o) ≡ in_face (if b then Some c else p)
    by true o p e = refl
    by false o p e = e

faces_placed : (n : ℕ) (cs : List Class) (k : ClassKey) → place_from n (λ (c : Class). same_key c.key k) (map face_only cs) ≡ place_from n (λ (c : Class). same_key c.key k) cs
faces_placed n [] k = refl
faces_placed n (c ∷ cs) k = ap (λ (o : Option ℕ). if same_key c.key k then Some n else o) (faces_placed (suc n) cs k)

height_same : (cs : List Class) (l : ClassKey-F ℕ) → height_step (map face_only cs) l ≡ height_step cs l
height_same cs (ClassKey-F.Named m name) = ap (λ (o : Option ℕ). unwrap_or o 0) (faces_placed 1 cs (keys.Named m name))
height_same cs (ClassKey-F.Derived hs) = refl
height_same cs (ClassKey-F.Proxy height) = refl

heights : (cs : List Class) (k : ClassKey) → (hierarchy (map face_only cs)).height k ≡ (hierarchy cs).height k
unfolding hierarchy
heights cs k = ap (λ (f : ClassKey-F ℕ → ℕ). fold-ClassKey ℕ f k) (fun_ext (height_same cs))

rank_same : (cs : List Class) (l : ClassKey-F ℕ) → rank_step (map face_only cs) l ≡ rank_step cs l
rank_same cs (ClassKey-F.Named m name) = ap (λ (o : Option ℕ). unwrap_or o 0) (faces_placed 0 cs (keys.Named m name))
rank_same cs (ClassKey-F.Derived hs) = refl
rank_same cs (ClassKey-F.Proxy height) = refl

low_same : (cs : List Class) (k : ClassKey) → is_low (map face_only cs) k ≡ is_low cs k
low_same cs k = ap (λ (f : ClassKey-F ℕ → ℕ). nat_lt (fold-ClassKey ℕ f k) 4) (fun_ext (rank_same cs))

pub entry_faces : (cs : List Class) (k : ClassKey) (name : List ℕ) → entry_at (map face_only cs) k name ≡ entry_at cs k name
entry_faces cs k name = by (class_at cs k) refl
  where
    by : (o : Option Class) → class_at cs k ≡ o → entry_at (map face_only cs) k name ≡ entry_at cs k name
    by None e = entry_unknown (map face_only cs) k name (faces_at cs k ∙ ap in_face e) ∙ sym (entry_unknown cs k name e)
    by (Some c) e = entry_is (map face_only cs) k name (face_only c) (faces_at cs k ∙ ap in_face e) ∙ sym (entry_is cs k name c e)

owner_by : (cs : List Class) (n : ℕ) (r : MethodRef) (q : Option ClassKey) → moved_to (entry_at cs r.class r.name) ≡ q
    → ((to : ClassKey) → owner_within (map face_only cs) n (record { class = to; name = r.name }) ≡ owner_within cs n (record { class = to; name = r.name })) → owner_within (map face_only cs) (suc n) r ≡ owner_within cs (suc n) r
owner_by cs n r None e f = stays (map face_only cs) (suc n) r (ap moved_to (entry_faces cs r.class r.name) ∙ e) ∙ sym (stays cs (suc n) r e)
owner_by cs n r (Some to) e f = moves (map face_only cs) n r to (ap moved_to (entry_faces cs r.class r.name) ∙ e) ∙ f to ∙ sym (moves cs n r to e)

owners : (cs : List Class) (n : ℕ) (r : MethodRef) → owner_within (map face_only cs) n r ≡ owner_within cs n r
owners cs zero r = refl
owners cs (suc n) r = owner_by cs n r (moved_to (entry_at cs r.class r.name)) refl (λ to. owners cs n (record { class = to; name = r.name }))

pub signature_faces : (cs : List Class) (k : ClassKey) (name : List ℕ) → signature (map face_only cs) k name ≡ signature cs k name
signature_faces cs k name =
    let r : MethodRef = record { class = k; name = name } in
    let own : owner (map face_only cs) r ≡ owner cs r = ap (λ n. owner_within (map face_only cs) n r) (heights cs k) ∙ owners cs ((hierarchy cs).height k) r in
    ap (sig_of (map face_only cs)) own ∙ ap introduced_sig (entry_faces cs (owner cs r).class (owner cs r).name)

-- metaclasses

parents_same : (o : Option Class) → parents_in (in_face o) ≡ parents_in o
parents_same None = refl
parents_same (Some c) = refl

parents_by_same : (cs : List Class) (l : ClassKey-F ClassKey) (k : ClassKey) → parents_by (map face_only cs) l k ≡ parents_by cs l k
parents_by_same cs (ClassKey-F.Named m name) k = ap parents_in (faces_at cs k) ∙ parents_same (class_at cs k)
parents_by_same cs (ClassKey-F.Derived ks) k = refl
parents_by_same cs (ClassKey-F.Proxy of) k = refl

declared_same : (o : Option Class) → declared_in (in_face o) ≡ declared_in o
declared_same None = refl
declared_same (Some c) = refl

lowest_same : (cs : List Class) (ks : List ClassKey) → lowest (map face_only cs) ks ≡ lowest cs ks
lowest_same cs ks = ap (λ (f : ClassKey → ClassKey → Bool). without (λ k. some (λ x. not (same_key x k) && f x k) ks) ks) (fun_ext (λ x. fun_ext (λ k. is_a_faces cs x k)))

metas : (cs : List Class) (n : ℕ) (k : ClassKey) → meta_within (map face_only cs) n k ≡ meta_within cs n k
metas cs zero k = refl
metas cs (suc n) k =
    let more = map face_only cs in
    ap (λ (b : Bool). if b then som_class else made (lowest more (firsts same_key (declared_in (class_at more k) ++ map (meta_within more n) (parents_of more k))))) (low_same cs k)
    ∙ ap (λ (ks : List ClassKey). if is_low cs k then som_class else made (lowest more (firsts same_key (ks ++ map (meta_within more n) (parents_of more k))))) (ap declared_in (faces_at cs k) ∙ declared_same (class_at cs k))
    ∙ ap (λ (ks : List ClassKey). if is_low cs k then som_class else made (lowest more (firsts same_key (declared_in (class_at cs k) ++ map (meta_within more n) ks)))) (parents_by_same cs (out-ClassKey k) k)
    ∙ ap (λ (f : ClassKey → ClassKey). if is_low cs k then som_class else made (lowest more (firsts same_key (declared_in (class_at cs k) ++ map f (parents_of cs k))))) (fun_ext (metas cs n))
    ∙ ap (λ (ks : List ClassKey). if is_low cs k then som_class else made ks) (lowest_same cs (firsts same_key (declared_in (class_at cs k) ++ map (meta_within cs n) (parents_of cs k))))

pub meta_faces : (cs : List Class) (k : ClassKey) → meta (map face_only cs) k ≡ meta cs k
meta_faces cs k = ap (λ n. meta_within (map face_only cs) n k) (heights cs k) ∙ metas cs ((hierarchy cs).height k) k
