-- Clients of any release that was accepted are kept by the last.
use Rattle.std.proofs.Common.{◌≡◌, ◌≤◌, true, List, [], ◌∷◌, ◌++◌, length, inl, inr, refl, sym, subst}
use Rattle.som_model.specs.declared.program.Release.{Release}
use Rattle.som_model.specs.declared.program.ClientProgram.{ClientProgram}
use Rattle.som_model.specs.declared.syntax.Block.{Block}
use Rattle.som_model.specs.declared.limits.TheConstants.{MAX_LAID_CLASSES}
use Rattle.som_model.specs.Lists.{Mem}
use Rattle.som_model.specs.Class.{Class, interface_of}
use Rattle.som_model.specs.Classes.{client_classes, interface_classes, library_classes}
use Rattle.som_model.specs.Binds.{Binds}
use Rattle.som_model.specs.Compatible.{Accepted, Compatible}
use Rattle.som_model.specs.Conforming.{ProgramOk, ReleaseOk}
use Rattle.som_model.specs.Counts.{ClassCounted, block_counted}
use Rattle.som_model.specs.Loads.{Loads}
use Rattle.som_model_laws.specs.Keeping.{ClassesKeep}
use Rattle.som_release_laws.specs.Releasing.{AreLoadable, HaveOtherKeys, HaveParents, IsCompiled, OwnersAreKept}
use Rattle.som_release_laws.proofs.Accepting.{release_keeps, release_ordered, to_last}
use Rattle.som_release_laws.proofs.Binding.{binds, modules_apart}
use Rattle.som_release_laws.proofs.KeptOwners.{once_kept}
use Rattle.som_release_laws.proofs.Loading.{bodies, faces, inherited, main_typed, released_loadable, typed}
use Rattle.som_release_laws.proofs.Prefix.{ordered}
use Rattle.som_release_laws.proofs.Ruled.{compiled, released, released_once}

pub loaded : (olds news own : List Class) (main : Block) → IsCompiled olds own main → AreLoadable news → ClassesKeep olds news → OwnersAreKept olds news → HaveOtherKeys news own
    → length (news ++ own) ≤ MAX_LAID_CLASSES → ((c : Class) → Mem c (news ++ own) → ClassCounted c.decl) → block_counted main ≡ true → Loads (news ++ own) main
loaded olds news own main c r keep kept apart few counted main_counted = record {
  few = few;
  counted = counted;
  main_counted = main_counted;
  faces = faces olds news own main c r keep kept apart;
  inherited = inherited olds news own main c r keep kept apart;
  bodies = bodies olds news own main c r keep kept apart;
  typed = typed olds news own main c r keep kept apart;
  main_typed = main_typed olds news own main c r keep kept apart;
}

abbrev pub Kept : ClientProgram → Release → Type 0
Kept p r = Binds p r × (length (library_classes r ++ client_classes p) ≤ MAX_LAID_CLASSES → ((c : Class) → Mem c (library_classes r ++ client_classes p) → ClassCounted c.decl)
    → block_counted p.main ≡ true → Loads (library_classes r ++ client_classes p) p.main)

pub client_kept : (p : ClientProgram) (r : Release) → ProgramOk p → ReleaseOk r → HaveParents (interface_classes p.base ++ client_classes p) → HaveParents (library_classes r) → Compatible p.base (interface_of r) → Kept p r
client_kept p r ok r_ok have have_r e =
    let c = compiled p ok have in
    let d = released_loadable (library_classes r) (released r r_ok have_r) in
    let keep = release_keeps p.base r (ordered (interface_classes p.base) (client_classes p) c.faces.ordered) (release_ordered r r_ok) e in
    let kept = once_kept (interface_classes p.base) (library_classes r) (client_classes p) c.faces d.faces keep (modules_apart r p) (released_once r r_ok) in
    (binds p r c d keep kept, loaded (interface_classes p.base) (library_classes r) (client_classes p) p.main c d keep kept (modules_apart r p))

at_end : (xs : List Release) (x : Release) → Mem x (xs ++ x ∷ [])
at_end [] x = inl refl
at_end (y ∷ xs) x = inr (at_end xs x)

pub accepted_kept : (rs : List Release) (last r : Release) (p : ClientProgram) → Accepted (rs ++ last ∷ []) → Mem r (rs ++ last ∷ []) → p.base ≡ interface_of r → ProgramOk p
    → HaveParents (interface_classes p.base ++ client_classes p) → HaveParents (library_classes last) → Kept p last
accepted_kept rs last r p accepted m base ok have have_last =
    client_kept p last ok (accepted.conform last (at_end rs last)) have have_last
    (subst (λ z. Compatible z (interface_of last)) (sym base) (to_last rs last r accepted.conform accepted.next m))
