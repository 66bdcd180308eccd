-- The blocks of a row that is laid.
use Rattle.std.proofs.Common.{◌≡◌, ℕ, ◌+◌, ◌<◌, List, [], ◌∷◌, ◌++◌, length, Option, Some, None, IsSome, is_some, slice_get, refl, sym, ap, ◌∙◌, subst}
use Rattle.std.specs.Option.{option_or}
use Rattle.std.proofs.lemmas.Option.{slice_get_within}
use Rattle.som_tables.specs.Rows.{Added, first_some, replaced_at, inherited, AreInherited, introduced_count}
use Rattle.som_tables.specs.Layout.{block_cell, IsBlock, IsLaid, next_cell}
use Rattle.som_tables.proofs.Options.{none_is_not_some, none_else_some, value_of_some, option_or_right, slice_get_some, slice_get-append_right}
use Rattle.som_tables.proofs.Inherited.{replaced_inherited}

-- what the first of two blocks gives, where each gives its cells
either_block : {C : Type 0} (cells : List C) (start rest : Option ℕ) (count : ℕ) (f g : ℕ → Option C) → IsBlock cells start count f → IsBlock cells rest count g → IsBlock cells (option_or start rest) count (λ p. option_or (f p) (g p))
either_block cells None rest count f g b r = record {
  cell = λ p lt. r.cell p lt ∙ ap (λ o. option_or o (g p)) (b.cell p lt);
  full = λ p lt s. option_or_right (f p) (g p) (r.full p lt s);
  some = r.some;
}
either_block cells (Some s) rest count f g b r = record {
  cell = λ p lt. let x = value_of_some (f p) (b.full p lt refl) in b.cell p lt ∙ x.1 ∙ ap (λ o. option_or o (g p)) (sym x.1);
  full = λ p lt _. let x = value_of_some (f p) (b.full p lt refl) in ap (λ o. is_some (option_or o (g p))) x.1;
  some = b.some;
}

module _ {C : Type 0} (cs : List (Option (Added C))) (at : ℕ → ℕ → Option ℕ) (cells : List C) (laid : IsLaid cs at cells) (a : ℕ) where
  -- the first block among the parents gives what the leftmost parent with the token has
  first_block : (ps : List ℕ) → IsBlock cells (first_some (λ q. at q a) ps) (introduced_count cs a) (λ p. first_some (λ q. inherited cs q (a, p)) ps)
  first_block [] = record { cell = λ p lt. refl; full = λ p lt s. absurd (none_is_not_some {A = ℕ} None refl s); some = λ s. absurd (none_is_not_some {A = ℕ} None refl s) }
  first_block (q ∷ qs) = either_block cells (at q a) (first_some (λ r. at r a) qs) (introduced_count cs a) (λ p. inherited cs q (a, p)) (λ p. first_some (λ r. inherited cs r (a, p)) qs) (laid.blocks q a) (first_block qs)

  module _ (ps : List ℕ) (rs : List ((ℕ × ℕ) × C)) (start : Option ℕ) (is_first : start ≡ first_some (λ q. at q a) ps) where
    above : IsBlock cells start (introduced_count cs a) (λ p. first_some (λ q. inherited cs q (a, p)) ps)
    above = rw is_first (first_block ps)

    -- a block with no replaced cell is shared
    pub shared_block : ((p : ℕ) → replaced_at rs (a, p) ≡ None) → IsBlock cells start (introduced_count cs a) (next_cell cs ps rs a)
    shared_block none = record {
      cell = λ p lt. above.cell p lt ∙ ap (λ o. option_or o (first_some (λ q. inherited cs q (a, p)) ps)) (sym (none p));
      full = λ p lt s. option_or_right (replaced_at rs (a, p)) _ (above.full p lt s);
      some = above.some;
    }

    -- no token of a class without a block is replaced
    pub absent_block : AreInherited cs ps rs → start ≡ None → IsBlock cells start (introduced_count cs a) (next_cell cs ps rs a)
    absent_block known none = record {
      cell = λ p lt.
          let no_cell : None ≡ first_some (λ q. inherited cs q (a, p)) ps = subst (λ s. block_cell cells s p ≡ first_some (λ q. inherited cs q (a, p)) ps) none (above.cell p lt) in
          let not_replaced : replaced_at rs (a, p) ≡ None = none_else_some (replaced_at rs (a, p)) (λ s. none_is_not_some (first_some (λ q. inherited cs q (a, p)) ps) (sym no_cell) (replaced_inherited cs ps rs (a, p) known s)) in
          above.cell p lt ∙ ap (λ o. option_or o (first_some (λ q. inherited cs q (a, p)) ps)) (sym not_replaced);
      full = λ p lt s. absurd (none_is_not_some start none s);
      some = above.some;
    }

    module _ (from : ℕ) (is : Some from ≡ start) where
      pub block_within : (p : ℕ) → p < introduced_count cs a → from + p < length cells
      block_within p lt =
          let x = value_of_some (first_some (λ q. inherited cs q (a, p)) ps) (above.full p lt (subst (λ s. IsSome s) is refl)) in
          slice_get_within cells (from + p) x.0 (subst (λ s. block_cell cells s p ≡ first_some (λ q. inherited cs q (a, p)) ps) (sym is) (above.cell p lt) ∙ x.1)

      -- a block with a replaced cell is copied to the end
      pub copied_block : (new : List C) → ((p : ℕ) → p < introduced_count cs a → slice_get new (length cells + p) ≡ option_or (replaced_at rs (a, p)) (slice_get cells (from + p)))
          → IsBlock new (Some (length cells)) (introduced_count cs a) (next_cell cs ps rs a)
      copied_block new copied = record {
        cell = λ p lt. copied p lt ∙ ap (option_or (replaced_at rs (a, p))) (subst (λ s. block_cell cells s p ≡ first_some (λ q. inherited cs q (a, p)) ps) (sym is) (above.cell p lt));
        full = λ p lt _. option_or_right (replaced_at rs (a, p)) _ (above.full p lt (subst (λ s. IsSome s) is refl));
        some = λ _. above.some (subst (λ s. IsSome s) is refl);
      }

-- a class's own cells, at the end of all cells
pub own_block : {C : Type 0} (cells own : List C) → 0 < length own → IsBlock (cells ++ own) (Some (length cells)) (length own) (λ p. slice_get own p)
own_block cells own some = record {
  cell = λ p lt. slice_get-append_right cells own p;
  full = λ p lt _. slice_get_some own p lt;
  some = λ _. some;
}
