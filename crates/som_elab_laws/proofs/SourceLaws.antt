-- Whole texts conform exactly where a release or a client program stands for them.
use Rattle.std.proofs.Common.{◌≡◌, List, None}
use Rattle.std.specs.Prelude.{◌↔◌}
use Rattle.som_model.specs.declared.program.ClientProgram.{ClientProgram}
use Rattle.som_model.specs.declared.program.Interface.{Interface}
use Rattle.som_model.specs.declared.program.Release.{Release}
use Rattle.som_model.specs.Classes.{interface_classes}
use Rattle.som_verify_classes.specs.Faces.{faces_breach}
use Rattle.som_sema_scope.specs.Words.{interfaces_of}
use Rattle.som_elab_methods.specs.Bodies.{bodies_of}
use Rattle.som_sources.specs.declared.source.Source.{Source}
use Rattle.som_compile.specs.Compiling.{StandFor, StandForClient}
use Rattle.som_elab_laws.specs.Sources.{ClientSourcesConform, LibrarySourcesConform}
use Rattle.som_elab_laws.proofs.ConformLaws.{client_stands, library_stands}

pub library_law : (ss : List Source) → LibrarySourcesConform ss ↔ ((r : Release) × StandFor ss r)
library_law ss = (
  (λ s.
      let q = (library_stands (interfaces_of s.trees.interfaces) (bodies_of s.trees.bodies)).0 s.conform in
      (q.0, record { trees = s.trees; read = s.read; built = q.1 })),
  (λ w.
      let s = w.1 in
      record { trees = s.trees; read = s.read; conform = (library_stands (interfaces_of s.trees.interfaces) (bodies_of s.trees.bodies)).1 (w.0, s.built) }),
)

pub client_law : (base : Interface) (ss : List Source) → faces_breach (interface_classes base) ≡ None → ClientSourcesConform base ss ↔ ((p : ClientProgram) × StandForClient base ss p)
client_law base ss conforms = (
  (λ s.
      let q = (client_stands base (interfaces_of s.trees.interfaces) (bodies_of s.trees.bodies) s.main.block conforms).0 s.conform in
      (q.0, record { trees = s.trees; main = s.main; read = s.read; one_main = s.one_main; built = q.1 })),
  (λ w.
      let s = w.1 in
      record {
        trees = s.trees;
        main = s.main;
        read = s.read;
        one_main = s.one_main;
        conform = (client_stands base (interfaces_of s.trees.interfaces) (bodies_of s.trees.bodies) s.main.block conforms).1 (w.0, s.built);
      }),
)
