-- The rules that the text of one interface keeps by itself, each as the list of what breaks it.
use Rattle.std.specs.Prelude.{ℕ, Bool, not, ◌&&◌, if◌then◌else◌, List, [], ◌∷◌, ◌++◌, map}
use Rattle.std.specs.Str.{bytes_eq}
use Rattle.som_model.specs.Lists.{among, doubles}
use Rattle.som_model.specs.Class.{introduced}
use Rattle.som_model.specs.Rules.{RuleBreach}
use Rattle.som_ast.specs.declared.interface.Modifier.{Modifier}
use Rattle.som_ast.specs.declared.interface.Modifier.TheVariants as modifiers
use Rattle.som_order.specs.Names.{texts}
use Rattle.som_sema_scope.specs.Words.{once}
use Rattle.som_sema_local.specs.declared.modifiers.Said.{Said as SaidTables}
use Rattle.som_sema_drafts.specs.Items.{Given, given, is_call, is_override, is_select, item_words, listed, replaced}
use Rattle.som_sema_drafts.specs.Drafts.{InterfaceDraft}
use Rattle.som_sema_drafts.specs.Demands.{text_breach}

-- those of the names that stand a second time
abbrev pub second : ℕ → InterfaceDraft → List (List ℕ) → List RuleBreach
second rule d names = map (text_breach rule d) (doubles bytes_eq [] names)

-- S6: the names that a class introduces are distinct, and those of its release order are
abbrev pub text_s6 : InterfaceDraft → List RuleBreach
text_s6 d = second 6 d (introduced d.class.face.entries) ++ second 6 d (listed d.text.items)

-- the methods that the modifiers before a place were given to: `override`, how they are called, and `select`
pub record Said : Type 0 where
  pub replaced : List (List ℕ)
  pub called : List (List ℕ)
  pub selecting : List (List ℕ)

abbrev pub nothing_said : Said
nothing_said = record { replaced = []; called = []; selecting = [] }

-- the tables of what was said, as names
abbrev pub said : SaidTables → Said
said t = record { replaced = texts t.replaced.keys; called = texts t.called.keys; selecting = texts t.selecting.keys }

-- whether a modifier may stand after others: `override` once on a method; `namelookup` and `offset` on methods that the class introduces, and
-- one of them once; `select` once, on methods that have `override` somewhere
abbrev pub may_be : List (List ℕ) → List (List ℕ) → Said → List ℕ → Modifier → Bool
may_be own replaced before name modifiers.Override = not (among name before.replaced)
may_be own replaced before name modifiers.NameLookup = among name own && not (among name before.called)
may_be own replaced before name modifiers.Offset = among name own && not (among name before.called)
may_be own replaced before name (modifiers.Select parent) = among name replaced && not (among name before.selecting)

abbrev pub may_stand : List (List ℕ) → List (List ℕ) → Said → Given → Bool
may_stand own replaced before g = may_be own replaced before g.method g.modifier

abbrev pub added_if : Bool → List ℕ → List (List ℕ) → List (List ℕ)
added_if test name names = if test then names ++ name ∷ [] else names

-- what is said with one modifier more
abbrev pub said_after : Given → Said → Said
said_after g before = record {
  replaced = added_if (is_override g.modifier) g.method before.replaced;
  called = added_if (is_call g.modifier) g.method before.called;
  selecting = added_if (is_select g.modifier) g.method before.selecting;
}

-- the methods with a modifier that can't stand, in the order of the text
abbrev pub misplaced : List (List ℕ) → List (List ℕ) → Said → List Given → List (List ℕ)
misplaced own replaced before [] = []
misplaced own replaced before (g ∷ gs) = (if may_stand own replaced before g then [] else g.method ∷ []) ++ misplaced own replaced (said_after g before) gs

-- S11: each modifier stands where it may
abbrev pub text_s11 : InterfaceDraft → List RuleBreach
text_s11 d = map (text_breach 11 d) (misplaced (once (introduced d.class.face.entries)) (replaced d.text.items) nothing_said (given d.text.items))

-- S12: the release order, the metaclass and the versions are said once
abbrev pub text_s12 : InterfaceDraft → List RuleBreach
text_s12 d = second 12 d (item_words d.text.items)
