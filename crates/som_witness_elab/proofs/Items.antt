-- The variables that W's text has, and what else its items say.
use Rattle.std.proofs.Common.{◌≡◌, ℕ, ◌++◌, nat_le, true, List, [], ◌∷◌, map, flat_map, length, refl, ap}
use Rattle.std.specs.Str.{bytes_eq}
use Rattle.som_model.specs.declared.key.Module.{Module}
use Rattle.som_model.specs.declared.key.ValueType.{ValueType}
use Rattle.som_model.specs.declared.class.Variable.{Variable}
use Rattle.som_model.specs.declared.limits.TheConstants.{MAX_VARIABLES}
use Rattle.som_model.specs.Lists.{among, doubles, without}
use Rattle.som_ast.specs.declared.interface.Item.{Item}
use Rattle.som_sema_scope.specs.ClassNames.{type_of}
use Rattle.som_sema_scope.specs.Words.{once}
use Rattle.som_sema_drafts.specs.Drafts.{item_variables}
use Rattle.som_sema_drafts.specs.Items.{Given, given, is_override, is_select, item_words, listed, major_in, metaclass_names, minor_in, number_of, with_modifier}
use Rattle.som_witness.specs.Program.{variable_v}
use Rattle.som_witness_texts.specs.Trees.{type_at, variable_v as variable_item}

-- items that declare these variables, of which no two have one name, and say nothing else
pub record AreVariables (module_of : List ℕ → Module) (items : List Item) (vs : List Variable) : Type 0 where
  pub nothing_given : given items ≡ []
  pub no_metaclass : metaclass_names items ≡ []
  pub nothing_listed : listed items ≡ []
  pub no_word : item_words items ≡ []
  pub no_major : number_of major_in items ≡ 0
  pub no_minor : number_of minor_in items ≡ 0
  pub are : flat_map (item_variables module_of) items ++ [] ≡ vs
  pub differ : doubles bytes_eq [] (map (λ (v : Variable). v.name) vs) ≡ []
  pub few : nat_le (length vs) MAX_VARIABLES ≡ true

pub no_variable : (module_of : List ℕ → Module) → AreVariables module_of [] []
no_variable module_of = record { nothing_given = refl; no_metaclass = refl; nothing_listed = refl; no_word = refl; no_major = refl; no_minor = refl; are = refl; differ = refl; few = refl }

pub one_variable : (module_of : List ℕ → Module) (p : ℕ) (kind : ValueType) → type_of module_of (type_at p kind) ≡ kind → AreVariables module_of (variable_item p kind ∷ []) (variable_v kind)
one_variable module_of p kind e = record { nothing_given = refl; no_metaclass = refl; nothing_listed = refl; no_word = refl; no_major = refl; no_minor = refl; are = ap variable_v e; differ = refl; few = refl }

-- what is overridden, by the modifiers
abbrev pub overridden_by : List Given → List (List ℕ)
overridden_by gs = without (λ name. among name (once (with_modifier is_select gs))) (once (with_modifier is_override gs))
