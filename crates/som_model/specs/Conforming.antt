-- Which releases and client programs conform, and the first rule that is broken where one is.
use Rattle.std.specs.Prelude.{◌≡◌, ℕ, List, [], ◌∷◌, ◌++◌, flat_map, Option, Some, None, Ok, Err, codes}
use Rattle.som_model.specs.declared.syntax.Block.{Block}
use Rattle.som_model.specs.declared.class.Sig.{Sig}
use Rattle.som_model.specs.declared.class.Entry.{Entry}
use Rattle.som_model.specs.declared.class.Entry.TheVariants as entries
use Rattle.som_model.specs.declared.class.Override.{Override}
use Rattle.som_model.specs.declared.class.Body.{Body}
use Rattle.som_model.specs.declared.class.Body.TheVariants as bodies
use Rattle.som_model.specs.declared.program.Release.{Release}
use Rattle.som_model.specs.declared.program.ClientProgram.{ClientProgram}
use Rattle.som_model.specs.Lists.{first, or_else}
use Rattle.som_model.specs.Class.{Class}
use Rattle.som_model.specs.Kernel.{kernel}
use Rattle.som_model.specs.Classes.{library_classes, interface_classes, client_classes}
use Rattle.som_model.specs.Owner.{owner, sig_of}
use Rattle.som_model.specs.Rules.{RuleBreach, breach, s1, s2, s3, s4, s5, s6, s7, s8, s9, s10, s14}
use Rattle.som_model.specs.Typing.{ClassFacts, Ruled, class_facts, in_body, in_main}
use Rattle.som_model.specs.TypedBlocks.{Scope, block_scope}

-- what breaks a rule that looks at the classes before each class
abbrev pub each_after : (List Class → Class → List RuleBreach) → List Class → List Class → List RuleBreach
each_after rule before [] = []
each_after rule before (c ∷ cs) = rule before c ++ each_after rule (before ++ c ∷ []) cs

-- the lowest rule from S1 to S4 that is broken, of these classes after those before them: its first class, and there the first member
abbrev pub first_of_names : List Class → List Class → Option RuleBreach
first_of_names before cs =
    or_else (first (each_after s1 before cs))
    (or_else (first (each_after s2 before cs))
    (or_else (first (flat_map s3 cs))
    (first (flat_map (s4 (before ++ cs)) cs))))

-- the lowest rule from S6 to S10 that is broken, of these classes after those before them: its first class, and there the first member
abbrev pub first_of_members : List Class → List Class → Option RuleBreach
first_of_members before cs =
    or_else (first (flat_map s6 cs))
    (or_else (first (flat_map s7 cs))
    (or_else (first (flat_map (s8 (before ++ cs)) cs))
    (or_else (first (flat_map (s9 (before ++ cs)) cs))
    (first (flat_map (s10 (before ++ cs)) cs)))))

-- the first breach of the rules S1 to S10 of these classes
abbrev pub faces_breach : List Class → Option RuleBreach
faces_breach cs = or_else (first_of_names kernel cs) (or_else (first (flat_map (s5 (kernel ++ cs)) cs)) (first_of_members kernel cs))

-- the first breach of the rules of a release that look into no block
abbrev pub declared_breach : Release → Option RuleBreach
declared_breach r = let cs = library_classes r in
    or_else (first_of_names kernel cs)
    (or_else (first (flat_map (s5 (kernel ++ cs)) cs))
    (or_else (first_of_members kernel cs)
    (first (flat_map s14 cs))))

-- the first breach of the rules of a client program that look into no block: the faces that it was compiled against come first, and their types name no class of the client
abbrev pub declared_program_breach : ClientProgram → Option RuleBreach
declared_program_breach p = let base = interface_classes p.base in let own = client_classes p in
    or_else (first_of_names kernel (base ++ own))
    (or_else (first (flat_map (s5 (kernel ++ base)) base ++ flat_map (s5 (kernel ++ base ++ own)) own))
    (or_else (first_of_members kernel (base ++ own))
    (first (flat_map s14 own))))

-- ---- S16 to S20, body by body, by what typing asks of the classes: in images nothing can break S15

-- a method's body that breaks a rule
abbrev pub body_breach : Class → List ℕ → Ruled Scope → List RuleBreach
body_breach c name (Ok scope) = []
body_breach c name (Err rule) = breach rule c name ∷ []

-- what the body of a method breaks, where its parameters are in scope
abbrev pub block_breach_by : ClassFacts → Class → List ℕ → Sig → Block → List RuleBreach
block_breach_by w c name sig block = body_breach c name (block_scope w (in_body c sig.result) block sig.params)

-- the bodies of introduced entries, in order
abbrev pub bodies_typed_by : ClassFacts → Class → List Entry → List Body → List RuleBreach
bodies_typed_by w c [] bs = []
bodies_typed_by w c (entries.Moved name to ∷ es) bs = bodies_typed_by w c es bs
bodies_typed_by w c (entries.Introduced name sig way ∷ es) [] = []
bodies_typed_by w c (entries.Introduced name sig way ∷ es) (bodies.User block ∷ bs) = block_breach_by w c name sig block ++ bodies_typed_by w c es bs
bodies_typed_by w c (entries.Introduced name sig way ∷ es) (bodies.Get n ∷ bs) = bodies_typed_by w c es bs
bodies_typed_by w c (entries.Introduced name sig way ∷ es) (bodies.Set n ∷ bs) = bodies_typed_by w c es bs

-- what an override breaks, by the signature of the method that it replaces; one without a signature breaks nothing here
abbrev pub override_breach_by : ClassFacts → Class → Override → Option Sig → List RuleBreach
override_breach_by w c o None = []
override_breach_by w c o (Some sig) = block_breach_by w c o.method.name sig o.block

-- an override has the signature of the method that it replaces, read through its owner among these classes
abbrev pub override_typed_by : ClassFacts → List Class → Class → Override → List RuleBreach
override_typed_by w cs c o = override_breach_by w c o (sig_of cs (owner cs o.method))

-- what the bodies of a class break, among all these classes
abbrev pub class_typed_by : ClassFacts → List Class → Class → List RuleBreach
class_typed_by w cs c = bodies_typed_by w c c.decl.face.entries c.decl.bodies ++ flat_map (override_typed_by w cs c) c.decl.overrides

-- what a block, bodies, an override and a class break, by what the declarations of these classes say
abbrev pub block_breach : List Class → Class → List ℕ → Sig → Block → List RuleBreach
block_breach cs = block_breach_by (class_facts cs)

abbrev pub bodies_typed : List Class → Class → List Entry → List Body → List RuleBreach
bodies_typed cs = bodies_typed_by (class_facts cs)

abbrev pub override_typed : List Class → Class → Override → List RuleBreach
override_typed cs = override_typed_by (class_facts cs) cs

abbrev pub class_typed : List Class → Class → List RuleBreach
class_typed cs = class_typed_by (class_facts cs) cs

-- main that breaks a rule
abbrev pub main_breach : Ruled Scope → List RuleBreach
main_breach (Ok scope) = []
main_breach (Err rule) = record { rule = rule; class = codes "main"; member = codes "-" } ∷ []

-- what main breaks
abbrev pub main_typed_by : ClassFacts → Block → List RuleBreach
main_typed_by w main = main_breach (block_scope w in_main main [])

abbrev pub main_typed : List Class → Block → List RuleBreach
main_typed cs = main_typed_by (class_facts cs)

-- all classes of a release and of a client program, the kernel's among them
abbrev pub all_of_release : Release → List Class
all_of_release r = kernel ++ library_classes r

abbrev pub all_of_program : ClientProgram → List Class
all_of_program p = kernel ++ interface_classes p.base ++ client_classes p

-- ---- all rules

-- the first breach of a release
abbrev pub release_breach : Release → Option RuleBreach
release_breach r = or_else (declared_breach r) (first (flat_map (class_typed (all_of_release r)) (library_classes r)))

-- the first breach of a client program; main comes last
abbrev pub program_breach : ClientProgram → Option RuleBreach
program_breach p = or_else (declared_program_breach p) (first (flat_map (class_typed (all_of_program p)) (client_classes p) ++ main_typed (all_of_program p) p.main))

-- a release conforms where it breaks no rule
pub record ReleaseOk (r : Release) : Type 0 where
  pub rules : declared_breach r ≡ None
  pub blocks : first (flat_map (class_typed (all_of_release r)) (library_classes r)) ≡ None

-- a client program conforms where it breaks no rule
pub record ProgramOk (p : ClientProgram) : Type 0 where
  pub rules : declared_program_breach p ≡ None
  pub blocks : first (flat_map (class_typed (all_of_program p)) (client_classes p) ++ main_typed (all_of_program p) p.main) ≡ None
