-- What an interface says of the class that it declares, by cases on its text.
use Rattle.std.specs.Prelude.{◌≡◌, ℕ, Bool, true, false, List, [], ◌∷◌, ◌++◌, length, map, slice_get, codes, Option, Some, None}
use Rattle.som_model.specs.declared.key.Module.{Module}
use Rattle.som_model.specs.declared.key.ClassKey.{ClassKey}
use Rattle.som_model.specs.declared.key.ValueType.{ValueType}
use Rattle.som_model.specs.declared.key.ValueType.TheVariants as types
use Rattle.som_model.specs.declared.class.Sig.{Sig}
use Rattle.som_model.specs.declared.class.Way.{Way}
use Rattle.som_model.specs.declared.class.Way.TheVariants as ways
use Rattle.som_model.specs.declared.class.Entry.{Entry}
use Rattle.som_model.specs.declared.class.Entry.TheVariants as entries
use Rattle.som_model.specs.declared.class.Variable.{Variable}
use Rattle.som_model.specs.declared.class.ClassFace.{ClassFace}
use Rattle.som_model.specs.Class.{Class, entry_name}
use Rattle.som_model.specs.Classes.{hierarchy}
use Rattle.som_model.specs.Kernel.{som_object}
use Rattle.som_model.specs.Lists.{Mem}
use Rattle.som_model.specs.Owner.{introduces}
use Rattle.som_model.specs.Resolution.{byname}
use Rattle.som_ast.specs.declared.words.TypeName.{TypeName}
use Rattle.som_ast.specs.declared.words.Word.{Word}
use Rattle.som_ast.specs.declared.interface.IdlInterface.{IdlInterface}
use Rattle.som_ast.specs.declared.interface.Param.{Param}
use Rattle.som_ast.specs.declared.interface.Export.{Export}
use Rattle.som_ast.specs.declared.interface.Export.TheVariants as exports
use Rattle.som_ast.specs.declared.interface.Item.{Item}
use Rattle.som_ast.specs.declared.interface.Item.TheVariants as items
use Rattle.som_ast.specs.declared.interface.Modifier.{Modifier}
use Rattle.som_ast.specs.declared.interface.Modifier.TheVariants as modifiers
use Rattle.som_sema_scope.specs.ClassNames.{key_of, result_of, type_of}

-- ---- words

-- as many as there are things, and at each place what the thing at that place says
pub record PlaceByPlace {A B : Type 0} (says : A → B) (things : List A) (made : List B) : Type 0 where
  pub long : length made ≡ length things
  pub each : (n : ℕ) (x : A) → slice_get things n ≡ Some x → slice_get made n ≡ Some (says x)

-- the text of a word
abbrev pub text_of : Word → List ℕ
text_of w = w.text

-- the name of the method that reads an attribute
abbrev pub reader : Word → List ℕ
reader w = codes "_get_" ++ w.text

-- the name of the method that sets it
abbrev pub writer : Word → List ℕ
writer w = codes "_set_" ++ w.text

-- one of the items gives a modifier to the method of this name
pub record Gives (is : List Item) (name : List ℕ) (m : Modifier) : Type 0 where
  pub method : Word
  pub modifiers : List Modifier
  pub there : Mem (items.Method method modifiers) is
  pub named : method.text ≡ name
  pub given : Mem m modifiers

-- ---- what is said once

-- a version is the number of its item, and 0 where there is none
pub record VersionSays (item : ℕ → Item) (is : List Item) (version : ℕ) : Type 0 where
  pub said : (n : ℕ) → Mem (item n) is → version ≡ n
  pub unsaid : ((n : ℕ) → Mem (item n) is → ⊥) → version ≡ 0

-- the release order is that of its item, and empty where there is none
pub record ListSays (is : List Item) (listed : List (List ℕ)) : Type 0 where
  pub said : (ws : List Word) → Mem (items.ReleaseOrder ws) is → PlaceByPlace text_of ws listed
  pub unsaid : ((ws : List Word) → Mem (items.ReleaseOrder ws) is → ⊥) → listed ≡ []

module _ (module_of : List ℕ → Module) where
  -- the class that a word names
  abbrev pub class_of : Word → ClassKey
  class_of w = key_of module_of w.text

  -- the metaclass is the class that its item names, and there is none without an item
  pub record MetaclassSays (is : List Item) (metaclass : Option ClassKey) : Type 0 where
    pub said : (w : Word) → Mem (items.Metaclass w) is → metaclass ≡ Some (class_of w)
    pub unsaid : ((w : Word) → Mem (items.Metaclass w) is → ⊥) → metaclass ≡ None

  -- the parents are the classes that the words name, and the kernel's SOMObject alone where no word stands
  pub data ParentsSay : List Word → List ClassKey → Type 0 where
    no_parent : ParentsSay [] (som_object ∷ [])
    some_parents : {w : Word} {ws : List Word} {parents : List ClassKey} → PlaceByPlace class_of (w ∷ ws) parents → ParentsSay (w ∷ ws) parents

  -- ---- methods

  -- the type of a parameter
  abbrev pub kind_of : Param → ValueType
  kind_of p = type_of module_of p.kind

  module _ (i : IdlInterface) where
    -- a method that the interface declares: an operation, or the reader or the writer of an attribute, which has no writer where it is read only
    pub data Declares : List ℕ → Sig → Type 0 where
      an_operation : (result : Option TypeName) (w : Word) (ps : List Param) (kinds : List ValueType) → Mem (exports.Operation result w ps) (i.before ++ i.after) → PlaceByPlace kind_of ps kinds
          → Declares w.text (record { result = result_of module_of result; params = kinds })
      a_reader : (readonly : Bool) (kind : TypeName) (names : List Word) (w : Word) → Mem (exports.Attribute readonly kind names) (i.before ++ i.after) → Mem w names
          → Declares (reader w) (record { result = type_of module_of kind; params = [] })
      a_writer : (kind : TypeName) (names : List Word) (w : Word) → Mem (exports.Attribute false kind names) (i.before ++ i.after) → Mem w names
          → Declares (writer w) (record { result = types.Void; params = type_of module_of kind ∷ [] })

    -- a method is called by its name where an item says so, and else by its place
    pub data WaySays (name : List ℕ) : Way → Type 0 where
      by_name : Gives i.items name modifiers.NameLookup → WaySays name ways.Lookup
      by_place : (Gives i.items name modifiers.NameLookup → ⊥) → WaySays name ways.Offset

    -- an entry is a method that the interface declares, or else one that moved up: to the first of the ancestors that introduces the name
    pub data EntrySays (cs : List Class) : Entry → Type 0 where
      a_declared_entry : {name : List ℕ} {sig : Sig} {way : Way} → Declares name sig → WaySays name way → EntrySays cs (entries.Introduced name sig way)
      a_moved_entry : {name : List ℕ} {to : ClassKey} → ((sig : Sig) → Declares name sig → ⊥) → byname (hierarchy cs) (introduces cs name) (class_of i.name) ≡ Some to
          → EntrySays cs (entries.Moved name to)

-- ---- the order of methods

-- the names of an attribute's methods: for each word the reader, and then the writer unless it is read only
pub data AccessorNames : Bool → List Word → List (List ℕ) → Type 0 where
  no_word : {readonly : Bool} → AccessorNames readonly [] []
  one_reader : {w : Word} {ws : List Word} {names : List (List ℕ)} → AccessorNames true ws names → AccessorNames true (w ∷ ws) (reader w ∷ names)
  reader_and_writer : {w : Word} {ws : List Word} {names : List (List ℕ)} → AccessorNames false ws names → AccessorNames false (w ∷ ws) (reader w ∷ writer w ∷ names)

-- the names of the methods that are declared, in the order of the text
pub data DeclaredNames : List Export → List (List ℕ) → Type 0 where
  no_export : DeclaredNames [] []
  one_operation : {result : Option TypeName} {w : Word} {ps : List Param} {es : List Export} {names : List (List ℕ)} → DeclaredNames es names → DeclaredNames (exports.Operation result w ps ∷ es) (w.text ∷ names)
  one_attribute : {readonly : Bool} {kind : TypeName} {ws : List Word} {es : List Export} {own names : List (List ℕ)} → AccessorNames readonly ws own → DeclaredNames es names
      → DeclaredNames (exports.Attribute readonly kind ws ∷ es) (own ++ names)

-- those that a list misses, in their order
pub data Misses (listed : List (List ℕ)) : List (List ℕ) → List (List ℕ) → Type 0 where
  no_name : Misses listed [] []
  a_listed_name : {name : List ℕ} {names missed : List (List ℕ)} → Mem name listed → Misses listed names missed → Misses listed (name ∷ names) missed
  a_missed_name : {name : List ℕ} {names missed : List (List ℕ)} → (Mem name listed → ⊥) → Misses listed names missed → Misses listed (name ∷ names) (name ∷ missed)

-- the order of entries: first the release order, and behind it the declared names that it misses, in the order of the text
pub record OrderSays (i : IdlInterface) (order : List (List ℕ)) : Type 0 where
  pub listed : List (List ℕ)
  pub declared : List (List ℕ)
  pub missed : List (List ℕ)
  pub front : ListSays i.items listed
  pub names : DeclaredNames (i.before ++ i.after) declared
  pub behind : Misses listed declared missed
  pub is : order ≡ listed ++ missed

-- ---- the face

-- a face is what the interface says, where names stand for classes in this way, and these are all classes
pub record FaceSays (module_of : List ℕ → Module) (cs : List Class) (i : IdlInterface) (f : ClassFace) : Type 0 where
  pub name : f.name ≡ i.name.text
  pub major : VersionSays items.Major i.items f.major
  pub minor : VersionSays items.Minor i.items f.minor
  pub parents : ParentsSay module_of i.parents f.parents
  pub metaclass : MetaclassSays module_of i.items f.metaclass
  pub order : OrderSays i (map entry_name f.entries)
  pub entries : (e : Entry) → Mem e f.entries → EntrySays module_of i cs e

-- ---- variables

module _ (module_of : List ℕ → Module) where
  -- a variable of this type, by its word
  abbrev pub variable_of : TypeName → Word → Variable
  variable_of kind w = record { name = w.text; kind = type_of module_of kind }

  -- the variables of attributes, in the order of the text
  pub data AttributeVariables : List Export → List Variable → Type 0 where
    no_attribute : AttributeVariables [] []
    a_method : {result : Option TypeName} {w : Word} {ps : List Param} {es : List Export} {vs : List Variable} → AttributeVariables es vs → AttributeVariables (exports.Operation result w ps ∷ es) vs
    an_attribute : {readonly : Bool} {kind : TypeName} {ws : List Word} {es : List Export} {own vs : List Variable} → PlaceByPlace (variable_of kind) ws own → AttributeVariables es vs
        → AttributeVariables (exports.Attribute readonly kind ws ∷ es) (own ++ vs)

  -- the variables of items, in the order of the text
  pub data ItemVariables : List Item → List Variable → Type 0 where
    no_item : ItemVariables [] []
    another_item : {x : Item} {is : List Item} {vs : List Variable} → ((kind : TypeName) (ws : List Word) → x ≡ items.Variables kind ws → ⊥) → ItemVariables is vs → ItemVariables (x ∷ is) vs
    an_item : {kind : TypeName} {ws : List Word} {is : List Item} {own vs : List Variable} → PlaceByPlace (variable_of kind) ws own → ItemVariables is vs
        → ItemVariables (items.Variables kind ws ∷ is) (own ++ vs)

  -- the variables of a class: those of attributes before the section, of its items, and of attributes behind it
  pub record VariablesSay (i : IdlInterface) (vs : List Variable) : Type 0 where
    pub before : List Variable
    pub inside : List Variable
    pub after : List Variable
    pub of_first : AttributeVariables i.before before
    pub of_items : ItemVariables i.items inside
    pub of_last : AttributeVariables i.after after
    pub are : vs ≡ before ++ inside ++ after
