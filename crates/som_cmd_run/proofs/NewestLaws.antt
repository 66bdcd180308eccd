-- A client that was compiled against any of a list of accepted releases runs on the newest as it means.
use Rattle.std.proofs.Common.{◌≡◌, ◌≤◌, ℕ, zero, suc, List, [], ◌∷◌, ◌++◌, length, map, get_or, slice_get, Some, None, refl, sym, ap, subst, inl, inr, arith}
use Rattle.std.specs.Prelude.{All}
use Rattle.std.proofs.lemmas.List.{get_or-map, length-map}
use Rattle.som_model.specs.declared.class.ClassDecl.{ClassDecl}
use Rattle.som_model.specs.declared.program.Release.{Release}
use Rattle.som_model.specs.declared.program.ClientProgram.{ClientProgram}
use Rattle.som_model.specs.declared.program.Interface.{Interface}
use Rattle.som_model.specs.Bytes.{Files}
use Rattle.som_model.specs.Class.{interface_of}
use Rattle.som_model.specs.Classes.{classes, client_classes, interface_classes, library_classes}
use Rattle.som_model.specs.Compatible.{Compatible}
use Rattle.som_model.specs.Conforming.{ProgramOk, ReleaseOk}
use Rattle.som_model.specs.Lists.{Mem}
use Rattle.som_verify_classes.specs.Faces.{faces_breach}
use Rattle.som_model_laws.proofs.Metas.{meta_of_parent}
use Rattle.som_image_classes.specs.ClassLimits.{FaceWithin}
use Rattle.som_libimage.proofs.Decoded.{image_within as release_within}
use Rattle.som_cliimage.proofs.Decoded.{image_within as program_within}
use Rattle.som_cliimage.specs.Limits.{IsWithinLimits}
use Rattle.som_compat.specs.Conditions.{IsCounted}
use Rattle.som_compat.proofs.Released.{interface_conforms}
use Rattle.som_link_limits.proofs.Classes.{program_counts, release_counts}
use Rattle.som_elab_methods.specs.Bodies.{bodies_of}
use Rattle.som_elab.proofs.Apart.{program_apart}
use Rattle.som_elab.proofs.Conforms.{program_conforms}
use Rattle.som_link_check.proofs.Pairs.{passes}
use Rattle.som_release_laws.proofs.Accepting.{to_last}
use Rattle.som_sema_scope.specs.Words.{interfaces_of}
use Rattle.som_sources.specs.declared.source.Source.{Source}
use Rattle.som_cmd_run.specs.Newest.{HoldsNewest, MetaclassesDescend}
use Rattle.som_cmd_run.specs.RunEnds.{AreUnder}

mem_at : {A : Type 0} (xs : List A) (i : ℕ) (x : A) → slice_get xs i ≡ Some x → Mem x xs
mem_at [] i x e = absurd cc
mem_at (y ∷ ys) zero x e = inl cc
mem_at (y ∷ ys) (suc i) x e = inr (mem_at ys i x e)

-- the faces of a release are within the counts if its interface is that of a program which has an image
counted : (r : Release) (p : ClientProgram) → p.base ≡ interface_of r → IsWithinLimits p → All (λ (d : ClassDecl). IsCounted d.face) r.classes
counted r p over w k d lt =
    let faces : All FaceWithin (map (λ (c : ClassDecl). c.face) r.classes) = subst (λ (i : Interface). All FaceWithin i.classes) over w.each_face in
    let long = length-map r.classes (λ (c : ClassDecl). c.face) in
    let one : FaceWithin (get_or (map (λ (c : ClassDecl). c.face) r.classes) k d.face) = faces k d.face (omega (arith, lt, long)) in
    let face = subst FaceWithin (get_or-map (λ (c : ClassDecl). c.face) r.classes k d d.face lt) one in
    record { some = face.some_parent; parents = face.parents; entries = face.entries }

few : (r : Release) (p : ClientProgram) → p.base ≡ interface_of r → IsWithinLimits p → length r.classes ≤ 4096
few r p over w =
    let long = length-map r.classes (λ (c : ClassDecl). c.face) in
    let same : length p.base.classes ≡ length (interface_of r).classes = ap (λ (i : Interface). length i.classes) over in
    let most = w.faces in
    omega (arith, long, same, most)

module _ (files : Files) (c l : List ℕ) (earlier : List Release) (newest : Release) (place : ℕ) (texts : List Source) (p : ClientProgram) (h : HoldsNewest files c l earlier newest place texts p) where
  among : Mem h.against (earlier ++ newest ∷ [])
  among = mem_at (earlier ++ newest ∷ []) place h.against h.against_is

  base_is : p.base ≡ interface_of h.against
  base_is = (program_apart (interface_of h.against) (interfaces_of h.stand.trees.interfaces) (bodies_of h.stand.trees.bodies) h.stand.main.block p h.stand.built).over

  within : IsWithinLimits p
  within = program_within p h.program.bytes h.program.spelled

  rules : faces_breach (interface_classes (interface_of h.against)) ≡ None
  rules = (interface_conforms h.against (h.accepted.conform h.against among) (few h.against p base_is within) (counted h.against p base_is within)).rules

  program_ok : ProgramOk p
  program_ok = program_conforms (interface_of h.against) (interfaces_of h.stand.trees.interfaces) (bodies_of h.stand.trees.bodies) h.stand.main.block p rules h.stand.built

  last : (earlier : List Release) → Mem newest (earlier ++ newest ∷ [])
  last [] = inl refl
  last (r ∷ rs) = inr (last rs)

  newest_ok : ReleaseOk newest
  newest_ok = h.accepted.conform newest (last earlier)

  -- both conform
  pub newest_under : AreUnder files c l p newest
  newest_under = record {
    program = record { bytes = h.program.bytes; image_is = h.program.image_is; bytes_are = h.program.bytes_are; spelled = h.program.spelled; conforms = program_ok };
    release = record { bytes = h.release.bytes; image_is = h.release.image_is; bytes_are = h.release.bytes_are; spelled = h.release.spelled; conforms = newest_ok };
  }

  -- the newest keeps what the client was compiled against
  pub newest_keeps : Compatible p.base (interface_of newest)
  newest_keeps = subst (λ (i : Interface). Compatible i (interface_of newest)) (sym base_is) (to_last earlier newest h.against h.accepted.conform h.accepted.next among)

  -- and metaclasses descend from those of parents
  pub newest_metaclasses : MetaclassesDescend (classes newest p)
  newest_metaclasses k parent m =
      let loads = (passes newest p (release_counts newest (release_within newest h.release.bytes h.release.spelled)) (program_counts p within) newest_ok program_ok newest_keeps).1 in
      meta_of_parent (library_classes newest ++ client_classes p) loads.faces.ordered k parent m
