-- A client has more fuel with each turn: what it shows grows, and an end stays.
use Rattle.std.proofs.Common.{◌≡◌, ℕ, zero, suc, ◌+◌, ◌<◌, true, false, if◌then◌else◌, List, [], ◌++◌, drop, length, refl, sym, ap, ◌∙◌, subst, arith, true≢false}
use Rattle.std.proofs.Math.Seq.{drop-length}
use Rattle.som_semantics.specs.State.{Event}
use Rattle.som_semantics.specs.Runs.{Faulted, Spent, Ran, Goes, Ends, end_of, IsMore}
use Rattle.som_semantics.specs.Fuel.{left_with, IsOver}
use Rattle.som_semantics.specs.RunText.{no_trace, events_lines}
use Rattle.som_semantics.specs.Means.{main_act, means_in, beginning}
use Rattle.som_semantics.proofs.FuelLaws.{over_more}
use Rattle.som_turn_laws.specs.Clients.{Client, IsMain, ClientEnd, became, end_after, is_going, shown_after}
use Rattle.som_turn_laws.specs.Turns.{fault_lines, turn_lines}

-- ---- runs that are over

over : (r : Ran (Unit {0})) → is_going (became r) ≡ false → IsOver r
over (Goes a s) e = tt
over (Ends (Faulted f at) s) e = tt
over (Ends Spent s) e = absurd (true≢false e)

became_left : (n : ℕ) (r : Ran (Unit {0})) → became (left_with n r) ≡ became r
became_left n (Goes a s) = refl
became_left n (Ends (Faulted f at) s) = refl
became_left n (Ends Spent s) = refl

events_left : (n : ℕ) (r : Ran (Unit {0})) → (end_of (left_with n r)).events ≡ (end_of r).events
events_left n (Goes a s) = refl
events_left n (Ends c s) = refl

-- ---- a client that has had a unit

end_there : (client : Client) (m : ℕ) → 0 < m → end_after client m ≡ became (client m)
end_there client zero some = absurd (omega (arith, some))
end_there client (suc m) some = refl

shown_there : (client : Client) (m : ℕ) → 0 < m → shown_after client m ≡ (end_of (client m)).events
shown_there client zero some = absurd (omega (arith, some))
shown_there client (suc m) some = refl

-- ---- a turn that adds nothing

nothing_drops : (es fs : List Event) → fs ≡ es → drop (length es) fs ≡ []
nothing_drops es fs e = ap (drop (length es)) e ∙ drop-length es

-- where no event is new and the client had ended, there is no line
pub quiet : (es fs : List Event) (before after : ClientEnd) → fs ≡ es → is_going before ≡ false
    → events_lines no_trace (drop (length es) fs) ++ (if is_going before then fault_lines after else []) ≡ []
quiet es fs before after e ended =
    ap (λ l. events_lines no_trace l ++ (if is_going before then fault_lines after else [])) (nothing_drops es fs e)
    ∙ ap (λ b. if b then fault_lines after else []) ended

module _ (client : Client) (is : IsMain client) where
  -- with more units a client does what it did, and more
  pub more : (n k : ℕ) → IsMore k (client n) (client (n + k))
  more n k =
      let law : IsMore k (means_in is.world is.main n) (means_in is.world is.main (n + k)) = (main_act is.world is.main).law.more k (beginning is.world n) in
      subst (λ r. IsMore k r (client (n + k))) (sym (is.means n)) (subst (λ r. IsMore k (means_in is.world is.main n) r) (sym (is.means (n + k))) law)

  same : (n k : ℕ) → is_going (became (client n)) ≡ false → client (n + k) ≡ left_with ((end_of (client n)).fuel + k) (client n)
  same n k ended = over_more k (client n) (client (n + k)) (over (client n) ended) (more n k)

  -- an end stays
  pub end_stays : (n k : ℕ) → is_going (end_after client n) ≡ false → end_after client (n + k) ≡ end_after client n
  end_stays zero k ended = absurd (true≢false ended)
  end_stays (suc n) k ended =
      let some : 0 < suc n + k = omega arith in
      end_there client (suc n + k) some ∙ ap became (same (suc n) k ended) ∙ became_left ((end_of (client (suc n))).fuel + k) (client (suc n))

  shown_stays : (n k : ℕ) → is_going (end_after client n) ≡ false → shown_after client (n + k) ≡ shown_after client n
  shown_stays zero k ended = absurd (true≢false ended)
  shown_stays (suc n) k ended =
      let some : 0 < suc n + k = omega arith in
      shown_there client (suc n + k) some ∙ ap (λ (r : Ran (Unit {0})). (end_of r).events) (same (suc n) k ended)
      ∙ events_left ((end_of (client (suc n))).fuel + k) (client (suc n))

  -- and its further turns add no line
  pub none_added : (n k : ℕ) → is_going (end_after client n) ≡ false → turn_lines client (n + k) ≡ []
  none_added n k ended =
      let one : suc (n + k) ≡ n + suc k = omega arith in
      let stays : shown_after client (suc (n + k)) ≡ shown_after client (n + k) = ap (shown_after client) one ∙ shown_stays n (suc k) ended ∙ sym (shown_stays n k ended) in
      quiet (shown_after client (n + k)) (shown_after client (suc (n + k))) (end_after client (n + k)) (end_after client (suc (n + k))) stays (ap is_going (end_stays n k ended) ∙ ended)
