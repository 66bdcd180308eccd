-- What one turn adds to the text of the turns before it.
use Rattle.std.proofs.Common.{◌≡◌, ℕ, zero, suc, ◌+◌, Bool, true, false, if◌then◌else◌, List, [], ◌∷◌, ◌++◌, map, drop, length, Option, Result, Ok, refl, sym, ap, subst, ◌∙◌, arith}
use Rattle.std.specs.List.{concat}
use Rattle.std.proofs.lemmas.List.{map-append}
use Rattle.std.proofs.lemmas.List.Folds.{concat-append}
use Rattle.som_model.specs.declared.key.ClassKey.{ClassKey}
use Rattle.som_model.specs.declared.syntax.Block.{Block}
use Rattle.som_semantics.specs.State.{Event}
use Rattle.som_semantics.specs.Runs.{Faulted, Spent, Ran, Goes, Ends, end_of}
use Rattle.som_semantics.specs.Means.{means_in}
use Rattle.som_semantics.specs.RunText.{no_trace, events_lines, with_prefix}
use Rattle.som_semantics.specs.World.{World}
use Rattle.som_turn_laws.specs.Clients.{Client, ClientEnd, IsMain, became, end_after, is_going, shown_after}
use Rattle.som_turn_laws.specs.Turns.{Clients, client_prefix, fault_lines, line_shown, lines_after, tagged, turn_lines, turns_lines, turns_of, turns_text}
use Rattle.som_turn_laws.proofs.Ending.{none_added}
use Rattle.som_turn_laws.proofs.Taking.{one_later, shown_tagged, text_on}
use Rattle.som_meta.specs.Numbering.{Numbering}
use Rattle.som_objects.specs.Objects.{Objects}
use Rattle.som_io.specs.Outside.{ShowsAll, ShowsFront}
use Rattle.som_io.proofs.ShownLaws.{front_both, front_longer, front_none, shows_both, shows_none}
use Rattle.som_trace.specs.declared.line.Untold.{Untold}
use Rattle.som_interp_state.specs.Settings.{Linked}
use Rattle.som_interp_loop.specs.Scene.{Scene}
use Rattle.som_interp_task.specs.declared.advanced.Advanced.{Advanced}
use Rattle.som_interp_task.specs.Advance.{added_text, events_now, goal, last_lines}
use Rattle.som_interp_task.specs.Stands.{told_so_far}
use Rattle.som_tasks.specs.declared.client.Client.{Client as Held}
use Rattle.som_tasks.specs.Turning.{Turns, scene_of}
use Rattle.som_tasks.specs.Stage.{IsAfter, is_begun}
use Rattle.som_tasks.proofs.Stepping.{kept_told, told_so}

-- the last line of a run is that of its fault
last_told : (r : Ran (Unit {0})) → last_lines r ≡ fault_lines (became r)
last_told (Goes a s) = refl
last_told (Ends (Faulted f at) s) = refl
last_told (Ends Spent s) = refl

-- what a task told with as many units is what its client has shown
shown_so_far : (client : Client) (w : World) (main : Block) → ((units : ℕ) → client units ≡ means_in w main units) → (n granted : ℕ) (begun : Bool) → granted ≡ n → begun ≡ is_begun n
    → (if begun then (end_of (means_in w main granted)).events else []) ≡ shown_after client n
shown_so_far client w main means zero granted begun g b = ap (λ z. if z then (end_of (means_in w main granted)).events else []) b
shown_so_far client w main means (suc n) granted begun g b =
    ap (λ z. if z then (end_of (means_in w main granted)).events else []) b
    ∙ ap (λ m. (end_of (means_in w main m)).events) g
    ∙ ap (λ (r : Ran (Unit {0})). (end_of r).events) (sym (means (suc n)))

-- lines of a turn
lines_so : (es : List Event) (end : ClientEnd) (b : Bool) → b ≡ true → events_lines no_trace es ++ fault_lines end ≡ events_lines no_trace es ++ (if b then fault_lines end else [])
lines_so es end b e = ap (λ z. events_lines no_trace es ++ (if z then fault_lines end else [])) (sym e)

-- the text of a client's next turn, each line after its prefix
abbrev pub turn_text : Client → ℕ → ℕ → List ℕ
turn_text client number n = concat (with_prefix (client_prefix number) (turn_lines client n))

-- the text of turns with one more
pub text_more : (clients : Clients) (turns : List ℕ) (i : ℕ) → turns_text clients (turns ++ i ∷ []) ≡ turns_text clients turns ++ turn_text (clients i) i (turns_of i turns)
text_more clients turns i =
    let ls = turn_lines (clients i) (turns_of i turns) in
    ap (λ l. concat (map line_shown l)) (one_later clients turns i)
    ∙ ap concat (map-append line_shown (turns_lines clients turns) (tagged i ls))
    ∙ concat-append (map line_shown (turns_lines clients turns)) (map line_shown (tagged i ls))
    ∙ ap (λ l. turns_text clients turns ++ concat l) (shown_tagged i ls)

module _ {A : Type 0} (linked : A → Linked) (known : A → Numbering) (main : A → Block) (made : A → ClassKey → Bool) (first : ℕ) (client : Client) (number n : ℕ) (os os' : Objects) (kernel kernel' : A) (held held' : Held) (end end' : Advanced) (before after : Option (List ℕ)) (result : Result (Unit {0}) Untold) where
  abbrev old : Scene
  old = scene_of linked known main made os kernel held.task

  module _ (a : IsAfter linked known main made first client number n os kernel held end) where
    -- what an advance by one unit adds is the text of the turn
    added_is : held.task.live ≡ true → added_text old 1 no_trace held.prefix ≡ turn_text client number n
    added_is live =
        let granted : held.task.task.granted ≡ n = a.granted live in
        let one : held.task.task.granted + 1 ≡ suc n = omega (arith, granted) in
        let goal_is : goal old 1 ≡ client (suc n) = ap (means_in (linked kernel).world (main kernel)) one ∙ sym (a.means (suc n)) in
        let shown : told_so_far old ≡ shown_after client n = shown_so_far client (linked kernel).world (main kernel) a.means n held.task.task.granted held.task.task.begun granted (a.begun live) in
        let events : events_now old 1 ≡ drop (length (shown_after client n)) (shown_after client (suc n)) =
        ap (λ (es : List Event). drop (length es) (end_of (goal old 1)).events) shown ∙ ap (λ (r : Ran (Unit {0})). drop (length (shown_after client n)) (end_of r).events) goal_is in
        let last : last_lines (goal old 1) ≡ fault_lines (end_after client (suc n)) = last_told (goal old 1) ∙ ap (λ (r : Ran (Unit {0})). fault_lines (became r)) goal_is in
        let going : is_going (end_after client n) ≡ true = sym a.live ∙ live in
        ap (λ p. concat (with_prefix p (events_lines no_trace (events_now old 1) ++ last_lines (goal old 1)))) a.prefix
        ∙ ap (λ es. concat (with_prefix (client_prefix number) (events_lines no_trace es ++ last_lines (goal old 1)))) events
        ∙ ap (λ ls. concat (with_prefix (client_prefix number) (events_lines no_trace (drop (length (shown_after client n)) (shown_after client (suc n))) ++ ls))) last
        ∙ ap (λ ls. concat (with_prefix (client_prefix number) ls)) (lines_so (drop (length (shown_after client n)) (shown_after client (suc n))) (end_after client (suc n)) (is_going (end_after client n)) going)

    -- the turn of a client that has ended has no text
    none_is : held.task.live ≡ false → turn_text client number n ≡ []
    none_is dead =
        let is : IsMain client = record { world = (linked kernel).world; main = main kernel; means = a.means } in
        let ended : is_going (end_after client n) ≡ false = sym a.live ∙ dead in
        let none : n + 0 ≡ n = omega arith in
        ap (λ ls. concat (with_prefix (client_prefix number) ls)) (subst (λ m. turn_lines client m ≡ []) none (none_added client is n 0 ended))

    module _ (t : Turns linked known main made before after os os' kernel kernel' held held' end end' result) where
      -- a turn tells its text, or a front of it
      pub tells_all : result ≡ Ok tt → ShowsAll before after (turn_text client number n)
      tells_all ok = by held.task.live refl
        where
          by : (b : Bool) → held.task.live ≡ b → ShowsAll before after (turn_text client number n)
          by true is =
              let x = t.goes is in
              subst (λ text. ShowsAll before after text) (added_is is) (told_so x.answer _ x.comes.text (kept_told x.answer end' result x.kept ok).0)
          by false is =
              subst (λ text. ShowsAll before after text) (sym (none_is is)) (subst (λ w. ShowsAll before w []) (sym (t.rests is).written) (shows_none before))

      pub tells_front : ShowsFront before after (turn_text client number n)
      tells_front = by held.task.live refl
        where
          by : (b : Bool) → held.task.live ≡ b → ShowsFront before after (turn_text client number n)
          by true is = subst (λ text. ShowsFront before after text) (added_is is) (t.goes is).comes.front
          by false is = subst (λ w. ShowsFront before w (turn_text client number n)) (sym (t.rests is).written) (front_none before (turn_text client number n))

-- after a text of turns and a turn more, the text of them all; or a front of the text of all turns
pub told_more : (clients : Clients) (turns : List ℕ) (i : ℕ) (first before after : Option (List ℕ)) → ShowsAll first before (turns_text clients turns) → ShowsAll before after (turn_text (clients i) i (turns_of i turns)) → ShowsAll first after (turns_text clients (turns ++ i ∷ []))
told_more clients turns i first before after f g =
    subst (λ text. ShowsAll first after text) (sym (text_more clients turns i)) (shows_both first before after (turns_text clients turns) (turn_text (clients i) i (turns_of i turns)) f g)

pub front_more : (clients : Clients) (turns : List ℕ) (i : ℕ) (later : List ℕ) (first before after : Option (List ℕ)) → ShowsAll first before (turns_text clients turns) → ShowsFront before after (turn_text (clients i) i (turns_of i turns))
    → ShowsFront first after (turns_text clients ((turns ++ i ∷ []) ++ later))
front_more clients turns i later first before after f g =
    let here : ShowsFront first after (turns_text clients (turns ++ i ∷ [])) = subst (λ text. ShowsFront first after text) (sym (text_more clients turns i)) (front_both first before after (turns_text clients turns) (turn_text (clients i) i (turns_of i turns)) f g) in
    subst (λ text. ShowsFront first after text) (sym (text_on clients (turns ++ i ∷ []) later)) (front_longer first after (turns_text clients (turns ++ i ∷ [])) (concat (map line_shown (lines_after clients (turns ++ i ∷ []) later))) here)
