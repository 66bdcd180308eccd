-- What the items of an implementation section say.
use Rattle.std.specs.Prelude.{ℕ, Bool, true, false, if◌then◌else◌, List, [], ◌∷◌, map, flat_map, codes, Option, Some, None, unwrap_or}
use Rattle.som_model.specs.Lists.{among, first_some, without}
use Rattle.som_ast.specs.declared.words.Word.{Word}
use Rattle.som_ast.specs.declared.interface.Item.{Item}
use Rattle.som_ast.specs.declared.interface.Item.TheVariants as items
use Rattle.som_ast.specs.declared.interface.Modifier.{Modifier}
use Rattle.som_ast.specs.declared.interface.Modifier.TheVariants as modifiers
use Rattle.som_sema_drafts.specs.declared.given.Mark.{Mark}
use Rattle.som_sema_scope.specs.Words.{words, once}

-- the parents' names; the parent of an interface without any is SOMObject
abbrev pub or_object : List Word → List (List ℕ)
or_object [] = codes "SOMObject" ∷ []
or_object (w ∷ ws) = w.text ∷ words ws

abbrev pub metaclass_in : Item → List (List ℕ)
metaclass_in (items.Metaclass w) = w.text ∷ []
metaclass_in _ = []

-- the names of the metaclass items
abbrev pub metaclass_names : List Item → List (List ℕ)
metaclass_names is = flat_map metaclass_in is

abbrev pub listed_in : Item → List (List ℕ)
listed_in (items.ReleaseOrder ws) = words ws
listed_in _ = []

-- the release order: all lists, joined
abbrev pub listed : List Item → List (List ℕ)
listed is = flat_map listed_in is

abbrev pub major_in : Item → Option ℕ
major_in (items.Major n) = Some n
major_in _ = None

abbrev pub minor_in : Item → Option ℕ
minor_in (items.Minor n) = Some n
minor_in _ = None

-- a modifier that is given to a method
pub record Given : Type 0 where
  pub method : List ℕ
  pub modifier : Modifier

abbrev pub given_in : Item → List Given
given_in (items.Method w ms) = map (λ m. record { method = w.text; modifier = m }) ms
given_in _ = []

-- the modifiers that are given, in the order of the text
abbrev pub given : List Item → List Given
given is = flat_map given_in is

abbrev pub given_by : Mark → Given
given_by k = record { method = k.method.now; modifier = k.modifier.now }

abbrev pub is_override : Modifier → Bool
is_override modifiers.Override = true
is_override modifiers.NameLookup = false
is_override modifiers.Offset = false
is_override (modifiers.Select parent) = false

-- whether a modifier says how a method is called
abbrev pub is_call : Modifier → Bool
is_call modifiers.Override = false
is_call modifiers.NameLookup = true
is_call modifiers.Offset = true
is_call (modifiers.Select parent) = false

abbrev pub is_by_name : Modifier → Bool
is_by_name modifiers.Override = false
is_by_name modifiers.NameLookup = true
is_by_name modifiers.Offset = false
is_by_name (modifiers.Select parent) = false

-- whether a modifier selects a parent
abbrev pub is_select : Modifier → Bool
is_select modifiers.Override = false
is_select modifiers.NameLookup = false
is_select modifiers.Offset = false
is_select (modifiers.Select parent) = true

abbrev pub if_given : (Modifier → Bool) → Given → List (List ℕ)
if_given test g = if test g.modifier then g.method ∷ [] else []

-- the methods that are given such a modifier, as often as they are
abbrev pub with_modifier : (Modifier → Bool) → List Given → List (List ℕ)
with_modifier test gs = flat_map (if_given test) gs

-- the methods with `override`, each at its first place
abbrev pub replaced : List Item → List (List ℕ)
replaced is = once (with_modifier is_override (given is))

-- the methods with `select`, each at its first place
abbrev pub selecting : List Item → List (List ℕ)
selecting is = once (with_modifier is_select (given is))

-- the methods that are overridden: those with `override` and without `select`
abbrev pub overridden : List Item → List (List ℕ)
overridden is = without (λ name. among name (selecting is)) (replaced is)

-- a method, and the parent of which its class takes the implementation
pub record Chosen : Type 0 where
  pub method : List ℕ
  pub parent : List ℕ

abbrev pub chosen_in : List ℕ → Modifier → List Chosen
chosen_in method modifiers.Override = []
chosen_in method modifiers.NameLookup = []
chosen_in method modifiers.Offset = []
chosen_in method (modifiers.Select parent) = record { method = method; parent = parent.text } ∷ []

abbrev pub chosen_by : Given → List Chosen
chosen_by g = chosen_in g.method g.modifier

-- what is selected, in the order of the text
abbrev pub chosen : List Item → List Chosen
chosen is = flat_map chosen_by (given is)

-- the methods that are called by name, each once
abbrev pub by_name : List Item → List (List ℕ)
by_name is = once (with_modifier is_by_name (given is))

abbrev pub word_in : Item → List (List ℕ)
word_in (items.ReleaseOrder ws) = codes "releaseorder" ∷ []
word_in (items.Metaclass w) = codes "metaclass" ∷ []
word_in (items.Major n) = codes "majorversion" ∷ []
word_in (items.Minor n) = codes "minorversion" ∷ []
word_in _ = []

-- the words of the items that may stand once
abbrev pub item_words : List Item → List (List ℕ)
item_words is = flat_map word_in is

-- the number that is given first, and 0 where none is
abbrev pub number_of : (Item → Option ℕ) → List Item → ℕ
number_of number is = unwrap_or (first_some number is) 0
