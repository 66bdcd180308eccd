-- The rules of a release and of a client program, said of the classes and their members.
use Rattle.std.specs.Prelude.{◌≡◌, ℕ, List, [], ◌∷◌, ◌++◌, length, take, slice_get, Some}
use Rattle.som_model.specs.declared.key.ClassKey.{ClassKey}
use Rattle.som_model.specs.declared.key.ValueType.{ValueType}
use Rattle.som_model.specs.declared.key.ValueType.TheVariants as types
use Rattle.som_model.specs.declared.class.Sig.{Sig}
use Rattle.som_model.specs.declared.class.Way.{Way}
use Rattle.som_model.specs.declared.class.Entry.{Entry}
use Rattle.som_model.specs.declared.class.Entry.TheVariants as entries
use Rattle.som_model.specs.declared.class.Body.{Body}
use Rattle.som_model.specs.declared.class.Body.TheVariants as bodies
use Rattle.som_model.specs.declared.syntax.Block.{Block}
use Rattle.som_model.specs.declared.class.Variable.{Variable}
use Rattle.som_model.specs.declared.class.Override.{Override}
use Rattle.som_model.specs.declared.class.Select.{Select}
use Rattle.som_model.specs.declared.class.ClassDecl.{ClassDecl}
use Rattle.som_model.specs.declared.program.Release.{Release}
use Rattle.som_model.specs.declared.program.ClientProgram.{ClientProgram}
use Rattle.som_model.specs.Lists.{Mem}
use Rattle.som_model.specs.Ancestors.{Descends}
use Rattle.som_model.specs.Class.{Class, entry_name, introduced}
use Rattle.som_model.specs.Classes.{client_classes, hierarchy, interface_classes, library_classes}
use Rattle.som_model.specs.Kernel.{kernel, som_class}
use Rattle.som_model.specs.Owner.{owner}
use Rattle.som_model.specs.Rules.{name_of}
use Rattle.som_verify_classes.specs.Told.{of_release}
use Rattle.som_verify_classes.specs.Places.{all_classes, with_kernel}

-- at different places of the list stand different things
pub record Differ {A B : Type 0} (f : A → B) (xs : List A) : Type 0 where
  pub by : (i j : ℕ) (x y : A) → slice_get xs i ≡ Some x → slice_get xs j ≡ Some y → f x ≡ f y → i ≡ j

-- one of the classes has the key
pub record IsAmong (cs : List Class) (k : ClassKey) : Type 0 where
  pub class : Class
  pub there : Mem class cs
  pub named : class.key ≡ k

-- one of the classes has the key and introduces the name
pub record Introduces (cs : List Class) (k : ClassKey) (name : List ℕ) : Type 0 where
  pub class : Class
  pub there : Mem class cs
  pub named : class.key ≡ k
  pub sig : Sig
  pub way : Way
  pub entry : Mem (entries.Introduced name sig way) class.decl.face.entries

-- the class of a type, if it is of one, is among these
pub record IsNamed (cs : List Class) (t : ValueType) : Type 0 where
  pub by : (k : ClassKey) → t ≡ types.Class k → IsAmong cs k

pub record IsValue (cs : List Class) (t : ValueType) : Type 0 where
  pub not_void : t ≡ types.Void → ⊥
  pub named : IsNamed cs t

-- a class has another class as an ancestor
pub record IsAbove (cs : List Class) (c : Class) (k : ClassKey) : Type 0 where
  pub other : k ≡ c.key → ⊥
  pub above : Descends (hierarchy (with_kernel cs)) c.key k

-- S1: the names of the classes differ, also from those of the kernel's
pub record NamesApart (cs : List Class) : Type 0 where
  pub own : Differ name_of cs
  pub kernels : (c d : Class) → Mem c kernel → Mem d cs → name_of c ≡ name_of d → ⊥

-- S2: each parent and the metaclass is a class of the kernel or stands before the class
pub record ParentsBefore (cs : List Class) : Type 0 where
  pub parents : (i : ℕ) (c : Class) (k : ClassKey) → slice_get cs i ≡ Some c → Mem k c.decl.face.parents → IsAmong (with_kernel (take i cs)) k
  pub metaclass : (i : ℕ) (c : Class) (k : ClassKey) → slice_get cs i ≡ Some c → c.decl.face.metaclass ≡ Some k → IsAmong (with_kernel (take i cs)) k

-- S3: the parents of a class differ
pub record ParentsDiffer (cs : List Class) : Type 0 where
  pub by : (c : Class) → Mem c cs → Differ (λ (k : ClassKey). k) c.decl.face.parents

-- S4: each metaclass descends from SOMClass
pub record MetaclassesDescend (cs : List Class) : Type 0 where
  pub by : (c : Class) (k : ClassKey) → Mem c cs → c.decl.face.metaclass ≡ Some k → Descends (hierarchy (with_kernel cs)) k som_class

-- S5: the classes of types are among those that are known, and only a result is void
pub record TypesKnown (known cs : List Class) : Type 0 where
  pub results : (c : Class) (name : List ℕ) (sig : Sig) (way : Way) → Mem c cs → Mem (entries.Introduced name sig way) c.decl.face.entries → IsNamed known sig.result
  pub params : (c : Class) (name : List ℕ) (sig : Sig) (way : Way) (t : ValueType) → Mem c cs → Mem (entries.Introduced name sig way) c.decl.face.entries → Mem t sig.params → IsValue known t
  pub variables : (c : Class) (v : Variable) → Mem c cs → Mem v c.decl.variables → IsValue known v.kind

-- S6: the names of a release order differ
pub record EntriesDiffer (cs : List Class) : Type 0 where
  pub by : (c : Class) → Mem c cs → Differ entry_name c.decl.face.entries

-- S7: the names of a class's variables differ
pub record VariablesDiffer (cs : List Class) : Type 0 where
  pub by : (c : Class) → Mem c cs → Differ (λ (v : Variable). v.name) c.decl.variables

-- S8: no two ancestors of a class introduce one name
pub record IntroducedOnce (cs : List Class) : Type 0 where
  pub by : (c : Class) (a b : ClassKey) (name : List ℕ) → Mem c cs
      → Descends (hierarchy (with_kernel cs)) c.key a → Descends (hierarchy (with_kernel cs)) c.key b
      → Introduces (with_kernel cs) a name → Introduces (with_kernel cs) b name → a ≡ b

-- S9: each moved entry names a proper ancestor that introduces its name
pub record MovedUp (cs : List Class) : Type 0 where
  pub above : (c : Class) (name : List ℕ) (to : ClassKey) → Mem c cs → Mem (entries.Moved name to) c.decl.face.entries → IsAbove cs c to
  pub introduced : (c : Class) (name : List ℕ) (to : ClassKey) → Mem c cs → Mem (entries.Moved name to) c.decl.face.entries → Introduces (with_kernel cs) to name

-- S10, of overrides: each is of a method that a proper ancestor introduces, and no two of a class are of one; methods go by their owners
pub record OverridesInherited (cs : List Class) : Type 0 where
  pub above : (c : Class) (o : Override) → Mem c cs → Mem o c.decl.overrides → IsAbove cs c (owner (with_kernel cs) o.method).class
  pub introduced : (c : Class) (o : Override) → Mem c cs → Mem o c.decl.overrides → Introduces (with_kernel cs) (owner (with_kernel cs) o.method).class (owner (with_kernel cs) o.method).name
  pub once : (c : Class) → Mem c cs → Differ (λ (o : Override). owner (with_kernel cs) o.method) c.decl.overrides

-- the class has a parent at the place, and that parent descends from another class
pub record TakesFrom (cs : List Class) (c : Class) (place : ℕ) (a : ClassKey) : Type 0 where
  pub parent : ClassKey
  pub there : slice_get c.decl.face.parents place ≡ Some parent
  pub above : Descends (hierarchy (with_kernel cs)) parent a

-- S10, of selects: each is of a method that a proper ancestor introduces, and names a parent that descends from it; no two of a class are of one method, and none of one that the class overrides
pub record SelectsInherited (cs : List Class) : Type 0 where
  pub above : (c : Class) (s : Select) → Mem c cs → Mem s c.decl.selects → IsAbove cs c (owner (with_kernel cs) s.method).class
  pub introduced : (c : Class) (s : Select) → Mem c cs → Mem s c.decl.selects → Introduces (with_kernel cs) (owner (with_kernel cs) s.method).class (owner (with_kernel cs) s.method).name
  pub parent : (c : Class) (s : Select) → Mem c cs → Mem s c.decl.selects → TakesFrom cs c s.parent (owner (with_kernel cs) s.method).class
  pub once : (c : Class) → Mem c cs → Differ (λ (s : Select). owner (with_kernel cs) s.method) c.decl.selects
  pub apart : (c : Class) (o : Override) (s : Select) → Mem c cs → Mem o c.decl.overrides → Mem s c.decl.selects → owner (with_kernel cs) o.method ≡ owner (with_kernel cs) s.method → ⊥

-- the rules S1 to S4 and S6 to S10, which look at no type
pub record ClassesHold (cs : List Class) : Type 0 where
  pub names : NamesApart cs
  pub stand : ParentsBefore cs
  pub parents : ParentsDiffer cs
  pub metaclasses : MetaclassesDescend cs
  pub entries : EntriesDiffer cs
  pub variables : VariablesDiffer cs
  pub once : IntroducedOnce cs
  pub moved : MovedUp cs
  pub overrides : OverridesInherited cs
  pub selects : SelectsInherited cs

-- the signatures of the entries that are introduced, in order
abbrev pub signatures : List Entry → List Sig
signatures [] = []
signatures (entries.Introduced name sig way ∷ es) = sig ∷ signatures es
signatures (entries.Moved name to ∷ es) = signatures es

-- a body fits a signature: a block does, a reader takes nothing and answers its variable's type, and a writer takes that type and answers nothing
pub data Fits (vs : List Variable) (sig : Sig) : Body → Type 0 where
  a_block : (block : Block) → Fits vs sig (bodies.User block)
  a_reader : (n : ℕ) (v : Variable) → slice_get vs n ≡ Some v → sig.result ≡ v.kind → sig.params ≡ [] → Fits vs sig (bodies.Get n)
  a_writer : (n : ℕ) (v : Variable) → slice_get vs n ≡ Some v → sig.result ≡ types.Void → sig.params ≡ v.kind ∷ [] → Fits vs sig (bodies.Set n)

-- S14: there are as many bodies as introduced entries, and each fits the signature of its entry
pub record BodiesFit (cs : List Class) : Type 0 where
  pub as_many : (c : Class) → Mem c cs → length c.decl.bodies ≡ length (introduced c.decl.face.entries)
  pub fit : (c : Class) (i : ℕ) (sig : Sig) (b : Body) → Mem c cs → slice_get (signatures c.decl.face.entries) i ≡ Some sig → slice_get c.decl.bodies i ≡ Some b → Fits c.decl.variables sig b

-- the names and the parents of a release
abbrev pub NamesDiffer : List ClassDecl → Type 0
NamesDiffer ds = NamesApart (of_release ds)

abbrev pub ParentsStand : List ClassDecl → Type 0
ParentsStand ds = ParentsBefore (of_release ds)

-- the rules S1 to S10 of a release
pub record FacesHold (ds : List ClassDecl) : Type 0 where
  pub classes : ClassesHold (of_release ds)
  pub types : TypesKnown (all_classes ds) (of_release ds)

-- the rules S1 to S10 and S14 of a release
pub record RulesHold (r : Release) : Type 0 where
  pub faces : FacesHold r.classes
  pub bodies : BodiesFit (library_classes r)

-- the classes that a client program knows: those of the faces that it was compiled against, and then its own
abbrev pub program_classes : ClientProgram → List Class
program_classes p = interface_classes p.base ++ client_classes p

-- the rules S1 to S10 and S14 of a client program: the faces' types name no class of its own, and bodies are its own classes' alone
pub record ProgramHolds (p : ClientProgram) : Type 0 where
  pub classes : ClassesHold (program_classes p)
  pub base_types : TypesKnown (with_kernel (interface_classes p.base)) (interface_classes p.base)
  pub own_types : TypesKnown (with_kernel (program_classes p)) (client_classes p)
  pub bodies : BodiesFit (client_classes p)
