-- What an interface selects, item by item.
use Rattle.std.proofs.Common.{◌≡◌, ℕ, ◌+◌, ◌≤◌, List, [], ◌∷◌, ◌++◌, length, drop, map, flat_map, refl, sym, ap, ◌∙◌, arith}
use Rattle.std.proofs.lemmas.List.{drop_all}
use Rattle.std.proofs.lemmas.List.Concat.{flat_map-append}
use Rattle.som_ast.specs.declared.words.Word.{Word}
use Rattle.som_ast.specs.declared.interface.Item.{Item}
use Rattle.som_ast.specs.declared.interface.Item.TheVariants as items
use Rattle.som_ast.specs.declared.interface.Modifier.{Modifier}
use Rattle.som_sema_drafts.specs.Items.{Given, chosen, chosen_by, chosen_in, given, given_in}
use Rattle.som_elab_methods.specs.Limits.{chosen_at}

chosen_parts : (is : List Item) → chosen is ≡ flat_map chosen_at is
chosen_parts [] = refl
chosen_parts (i ∷ is) = flat_map-append chosen_by (given_in i) (given is) ∙ ap (λ z. chosen_at i ++ z) (chosen_parts is)

chosen_length : (is : List Item) → length (flat_map chosen_at is) ≡ length (chosen is)
chosen_length is = ap (λ z. length z) (sym (chosen_parts is))

-- where no item is left
pub all_selected : (is : List Item) (i n : ℕ) → length is ≤ i → n + length (flat_map chosen_at (drop i is)) ≡ length (flat_map chosen_at is) → n ≡ length (chosen is)
all_selected is i n le e =
    let none : length (flat_map chosen_at (drop i is)) ≡ 0 = ap (λ (z : List Item). length (flat_map chosen_at z)) (drop_all i is le) in
    let whole = chosen_length is in
    omega (arith, none, e, whole)

modifiers_chosen : (name : List ℕ) (ms : List Modifier) → flat_map chosen_by (map (λ (m : Modifier). let g : Given = record { method = name; modifier = m } in g) ms) ≡ flat_map (chosen_in name) ms
modifiers_chosen name [] = refl
modifiers_chosen name (m ∷ ms) = ap (λ z. chosen_in name m ++ z) (modifiers_chosen name ms)

pub method_length : (w : Word) (ms : List Modifier) → length (flat_map (chosen_in w.text) ms) ≡ length (chosen_at (items.Method w ms))
method_length w ms = ap (λ z. length z) (sym (modifiers_chosen w.text ms))
