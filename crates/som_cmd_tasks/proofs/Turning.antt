-- The turns that a pattern gives.
use Rattle.std.proofs.Common.{◌≡◌, ℕ, zero, suc, ◌+◌, ◌*◌, ◌<◌, ◌≤◌, ◌^◌, ◌&&◌, ◌==◌, Bool, true, false, true≢false, if◌then◌else◌, List, [], ◌∷◌, ◌++◌, length, map, replicate, refl, sym, ap, subst, ◌∙◌, arith, ltb-true, length-append}
use Rattle.std.specs.Prelude.{nat_le, nat_lt}
use Rattle.std.specs.List.{All, concat}
use Rattle.std.proofs.lemmas.Bool.{and_parts}
use Rattle.std.proofs.lemmas.List.{append-nil, length-map, replicate_more}
use Rattle.std.proofs.lemmas.List.Elements.{All-append, All-cons, All-nil}
use Rattle.std.proofs.lemmas.List.Folds.{concat-append}
use Rattle.std.proofs.lemmas.List.Sums.{count_by-le-length}
use Rattle.som_model.specs.Lists.{every}
use Rattle.som_turn_laws.specs.Turns.{turns_of}
use Rattle.som_cmd_tasks.specs.declared.limits.TheConstants.{MAX_PATTERN, MAX_ROUNDS}
use Rattle.som_cmd_tasks.specs.Patterns.{AreTurns, client_of, names_client, turns_given}

-- ---- one round after the other

pub one_round_more : (round turns : List ℕ) (k : ℕ) → turns ≡ concat (replicate k round) → turns ++ round ≡ concat (replicate (k + 1) round)
one_round_more round turns k is =
    ap (λ (t : List ℕ). t ++ round) is
    ∙ ap (λ (t : List ℕ). concat (replicate k round) ++ t) (sym (append-nil round))
    ∙ sym (concat-append (replicate k round) (round ∷ []))
    ∙ ap (λ (rs : List (List ℕ)). concat rs) (replicate_more k round)

-- ---- they are turns of so many clients, and not too many

both_pass : (b c : Bool) → (if b then c else false) ≡ true → (b ≡ true) × (c ≡ true)
both_pass true c h = (refl, h)
both_pass false c h = absurd (true≢false (sym h))

places_named : (count : ℕ) (pattern : List ℕ) → every (names_client count) pattern ≡ true → All (λ turn. turn < count) (map client_of pattern)
places_named count [] e = All-nil (λ turn. turn < count)
places_named count (d ∷ ds) e =
    let parts = both_pass (names_client count d) (every (names_client count) ds) e in
    let named = and_parts (nat_le 48 d) (nat_lt (client_of d) count) parts.0 in
    All-cons (λ turn. turn < count) (client_of d) (map client_of ds) (ltb-true (client_of d) count named.1) (places_named count ds parts.1)

places_repeated : (count : ℕ) (round : List ℕ) (k : ℕ) → All (λ turn. turn < count) round → All (λ turn. turn < count) (concat (replicate k round))
places_repeated count round zero all = All-nil (λ turn. turn < count)
places_repeated count round (suc k) all = All-append (λ turn. turn < count) round (concat (replicate k round)) all (places_repeated count round k all)

repeated_few : (round : List ℕ) (most k : ℕ) → length round ≤ most → length (concat (replicate k round)) ≤ k * most
repeated_few round most zero few = omega arith
repeated_few round most (suc k) few =
    let more = repeated_few round most k few in
    let long = length-append round (concat (replicate k round)) in
    omega (arith, more, long, few)

pub pattern_turns : (count : ℕ) (pattern : List ℕ) (rounds : ℕ) → every (names_client count) pattern ≡ true → length pattern ≤ MAX_PATTERN → rounds ≤ MAX_ROUNDS → AreTurns count (turns_given pattern rounds)
pattern_turns count pattern rounds each short few =
    let long : length (map client_of pattern) ≡ length pattern = length-map pattern client_of in
    let some : length (turns_given pattern rounds) ≤ rounds * 1000 = repeated_few (map client_of pattern) 1000 rounds (omega (arith, long, short)) in
    record {
      places = places_repeated count (map client_of pattern) rounds (places_named count pattern each);
      few = omega (arith, some, few);
    }

pub few_each : (count : ℕ) (turns : List ℕ) (i : ℕ) → AreTurns count turns → turns_of i turns < 2 ^ 32
few_each count turns i are =
    let less = count_by-le-length (λ j. j == i) turns in
    let few = are.few in
    omega (arith, less, few)
