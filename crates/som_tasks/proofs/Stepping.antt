-- A client after one turn more.
use Rattle.std.proofs.Common.{◌≡◌, ℕ, zero, suc, ◌+◌, ◌<◌, ◌≤◌, Bool, true, false, List, length, Option, Result, Ok, Err, refl, sym, ap, subst, ◌∙◌, arith, true≢false}
use Rattle.som_model.specs.declared.key.ClassKey.{ClassKey}
use Rattle.som_model.specs.declared.syntax.Block.{Block}
use Rattle.som_semantics.specs.Runs.{Faulted, Spent, Ran, Goes, Ends, end_of}
use Rattle.som_semantics.specs.Fuel.{IsOver, left_with}
use Rattle.som_semantics.specs.Means.{means_in}
use Rattle.som_semantics.specs.World.{World}
use Rattle.som_semantics.proofs.FuelLaws.{over_more}
use Rattle.som_turn_laws.specs.Clients.{Client, ClientEnd, Going, Done, AtFault, IsMain, became, end_after, is_going}
use Rattle.som_turn_laws.proofs.Ending.{end_stays, more}
use Rattle.som_meta.specs.Numbering.{Numbering}
use Rattle.som_objects.specs.Objects.{Objects}
use Rattle.som_trace.specs.declared.line.Untold.{Untold}
use Rattle.som_trace.specs.declared.line.Untold.TheVariants as untold
use Rattle.som_interp_state.specs.Settings.{Linked}
use Rattle.som_interp_state.specs.Stored.{Spares}
use Rattle.som_interp_loop.specs.Scene.{Scene}
use Rattle.som_interp_task.specs.declared.advanced.Advanced.{Advanced}
use Rattle.som_interp_task.specs.declared.advanced.Advanced.TheVariants as answers
use Rattle.som_interp_task.specs.Advance.{Ended, IfEnded, IfGoing, goal}
use Rattle.som_interp_task.specs.Stands.{Stands}
use Rattle.som_exec.specs.Going.{is_going as can_go_on}
use Rattle.som_tasks.specs.declared.client.Client.{Client as Held}
use Rattle.som_tasks.specs.Taken.{answer_of, objects_after}
use Rattle.som_tasks.specs.Turning.{GoesOn, IsKept, IsKeptEnd, Turns, scene_of}
use Rattle.som_tasks.specs.Stage.{IsAfter, serials_of}
use Rattle.som_tasks.proofs.Sparing.{Leaves, leaves, leaves_all, own_later, stands_with}

-- ---- answers that are ends

-- the answer tells an end
abbrev pub IsTold : Advanced → Type 0
IsTold answers.SinkFailed = ⊥
IsTold answers.NoMemory = ⊥
IsTold _ = Unit {0}

never_ok : (e : Untold) (result : Result (Unit {0}) Untold) → result ≡ Err e → result ≡ Ok tt → ⊥
never_ok e result h ok = (let z : ◌≡◌ {A = Result (Unit {0}) Untold} (Err e) (Ok tt) = sym h ∙ ok in cc)

pub kept_told : (answer end : Advanced) (result : Result (Unit {0}) Untold) → IsKeptEnd answer end result → result ≡ Ok tt → IsTold answer × (end ≡ answer)
kept_told answers.Going end result h ok = (tt, h.0)
kept_told answers.Done end result h ok = (tt, h.0)
kept_told (answers.SourceFault f at) end result h ok = (tt, h.0)
kept_told answers.SinkFailed end result h ok = absurd (never_ok untold.SinkFailed result h ok)
kept_told answers.NoMemory end result h ok = absurd (never_ok untold.NoMemory result h ok)

pub told_so : (answer : Advanced) (P : Type 0) → IfEnded answer P → IsTold answer → P
told_so answers.Going P p told = p
told_so answers.Done P p told = p
told_so (answers.SourceFault f at) P p told = p
told_so answers.SinkFailed P p told = absurd told
told_so answers.NoMemory P p told = absurd told

-- a task that is live after an advance stands
still_going : (answer : Advanced) (P : Type 0) → IfGoing answer P → can_go_on answer ≡ true → P
still_going answers.Going P p is = p
still_going answers.Done P p is = absurd (let z = is in cc)
still_going (answers.SourceFault fault at) P p is = absurd (let z = is in cc)
still_going answers.SinkFailed P p is = absurd (let z = is in cc)
still_going answers.NoMemory P p is = absurd (let z = is in cc)

-- an answer tells what became of the meaning
told_end : (old : Scene) (answer : Advanced) → Ended old 1 answer → IsTold answer → answer ≡ answer_of (became (goal old 1))
told_end old answers.Going h told = sym (ap (λ (r : Ran (Unit {0})). answer_of (became r)) h.1)
told_end old answers.Done h told = sym (ap (λ (r : Ran (Unit {0})). answer_of (became r)) h.1)
told_end old (answers.SourceFault f at) h told = ap (λ a. answers.SourceFault f a) h.3 ∙ sym (ap (λ (r : Ran (Unit {0})). answer_of (became r)) h.2)
told_end old answers.SinkFailed h told = absurd told
told_end old answers.NoMemory h told = absurd told

going_told : (end : ClientEnd) → can_go_on (answer_of end) ≡ is_going end
going_told Going = refl
going_told Done = refl
going_told (AtFault f at) = refl

-- ---- a client that has ended

over : (r : Ran (Unit {0})) → is_going (became r) ≡ false → IsOver r
over (Goes a s) e = tt
over (Ends (Faulted f at) s) e = tt
over (Ends Spent s) e = absurd (true≢false e)

objects_left : (n : ℕ) (r : Ran (Unit {0})) → length (end_of (left_with n r)).heap.objects ≡ length (end_of r).heap.objects
objects_left n (Goes a s) = refl
objects_left n (Ends c s) = refl

-- it makes no object more
pub objects_stay : (client : Client) → IsMain client → (n : ℕ) → is_going (end_after client n) ≡ false → objects_after client (suc n) ≡ objects_after client n
objects_stay client is zero ended = absurd (true≢false ended)
objects_stay client is (suc n) ended =
    let one : suc n + 1 ≡ suc (suc n) = omega arith in
    let same = over_more 1 (client (suc n)) (client (suc n + 1)) (over (client (suc n)) ended) (more client is (suc n) 1) in
    ap (λ m. length (end_of (client m)).heap.objects) (sym one)
    ∙ ap (λ (r : Ran (Unit {0})). length (end_of r).heap.objects) same
    ∙ objects_left ((end_of (client (suc n))).fuel + 1) (client (suc n))

pub end_stays_so : (client : Client) → IsMain client → (n : ℕ) → is_going (end_after client n) ≡ false → end_after client (suc n) ≡ end_after client n
end_stays_so client is n ended =
    let one : n + 1 ≡ suc n = omega arith in
    subst (λ m. end_after client m ≡ end_after client n) one (end_stays client is n 1 ended)

-- ---- a turn

module _ {A : Type 0} (keys : A → List ClassKey) (world : A → World) (linked : A → Linked) (known : A → Numbering) (main : A → Block) (made : A → ClassKey → Bool) (first : ℕ) (client : Client) (number n : ℕ) where
  abbrev At : ℕ → Objects → A → Held → Advanced → Type 0
  At turns os kernel held end = IsAfter linked known main made first client number turns os kernel held end

  -- a client that doesn't take the turn
  pub waits_on : (os os' : Objects) (kernel : A) (held : Held) (end : Advanced) → At n os kernel held end → Spares (serials_of held) os os' → length os ≤ length os' → At n os' kernel held end
  waits_on os os' kernel held end a spares le = record {
    means = a.means;
    prefix = a.prefix;
    live = a.live;
    end_is = a.end_is;
    granted = a.granted;
    begun = a.begun;
    stands = λ is. stands_with (scene_of linked known main made os kernel held.task) os' spares (a.stands is);
    objects = a.objects;
    own = λ m is. (let o = a.own m is in let low : first < m = o.0 in let high : m ≤ length os = o.1 in (low, omega (arith, le, high)));
  }

  -- a client that has ended has its turn
  rested : (os : Objects) (kernel : A) (held : Held) (end : Advanced) → At n os kernel held end → held.task.live ≡ false → At (suc n) os kernel held end
  rested os kernel held end a dead =
      let is : IsMain client = record { world = (linked kernel).world; main = main kernel; means = a.means } in
      let ended : is_going (end_after client n) ≡ false = sym a.live ∙ dead in
      let stays : end_after client (suc n) ≡ end_after client n = end_stays_so client is n ended in
      let never : held.task.live ≡ true → ⊥ = λ live. true≢false (sym live ∙ dead) in
      record {
        means = a.means;
        prefix = a.prefix;
        live = a.live ∙ sym (ap is_going stays);
        end_is = a.end_is ∙ sym (ap answer_of stays);
        granted = λ live. absurd (never live);
        begun = λ live. absurd (never live);
        stands = λ live. absurd (never live);
        objects = a.objects ∙ sym (objects_stay client is n ended);
        own = a.own;
      }

  module _ (os os' : Objects) (kernel kernel' : A) (held held' : Held) (end end' : Advanced) (before after : Option (List ℕ)) (result : Result (Unit {0}) Untold) where
    abbrev old : Scene
    old = scene_of linked known main made os kernel held.task

    abbrev new : Scene
    new = scene_of linked known main made os' kernel' held'.task

    -- what the turn leaves of the store
    pub turn_leaves : Turns linked known main made before after os os' kernel kernel' held held' end end' result → Leaves (serials_of held) (serials_of held') os os'
    turn_leaves t = by held.task.live refl
      where
        by : (b : Bool) → held.task.live ≡ b → Leaves (serials_of held) (serials_of held') os os'
        by true is = leaves old new 1 _ _ _ _ _ (t.goes is).comes
        by false is =
            let r = t.rests is in
            subst (λ (h : Held). Leaves (serials_of held) (serials_of h) os os') (sym r.client_is)
            (subst (λ (o : Objects). Leaves (serials_of held) (serials_of held) os o) (sym r.objects) (leaves_all (serials_of held) os))

    module _ (a : At n os kernel held end) (kept : IsKept keys world known linked main kernel kernel') (low : first ≤ length os) (ok : result ≡ Ok tt) where
      went : held.task.live ≡ true → held'.prefix ≡ held.prefix → GoesOn held.prefix before after old new held'.task.live end' result → At (suc n) os' kernel' held' end'
      went live prefix x =
          let k = kept_told x.answer end' result x.kept ok in
          let granted : held.task.task.granted ≡ n = a.granted live in
          let one : held.task.task.granted + 1 ≡ suc n = omega (arith, granted) in
          let goal_is : goal old 1 ≡ client (suc n) = ap (means_in (linked kernel).world (main kernel)) one ∙ sym (a.means (suc n)) in
          let told : x.answer ≡ answer_of (end_after client (suc n)) = told_end old x.answer x.comes.ended k.0 ∙ ap (λ (r : Ran (Unit {0})). answer_of (became r)) goal_is in
          record {
            means = λ units. a.means units ∙ ap (λ (l : Linked). means_in l.world (main kernel) units) (sym kept.same_linked) ∙ ap (λ (b : Block). means_in (linked kernel').world b units) (sym kept.same_main);
            prefix = prefix ∙ a.prefix;
            live = x.live_is ∙ ap can_go_on told ∙ going_told (end_after client (suc n));
            end_is = k.1 ∙ told;
            granted = λ is. (let g : held'.task.task.granted ≡ held.task.task.granted + 1 = x.comes.keeps.granted in g ∙ one);
            begun = λ is. x.comes.keeps.begun;
            stands = λ is. still_going x.answer (Stands new) x.comes.stands (sym x.live_is ∙ is);
            objects = told_so x.answer _ x.comes.objects k.0 ∙ ap (λ (r : Ran (Unit {0})). length (end_of r).heap.objects) goal_is;
            own = own_later (serials_of held) (serials_of held') os os' (leaves old new 1 _ _ _ _ _ x.comes) first low a.own;
          }

      pub has_turned : Turns linked known main made before after os os' kernel kernel' held held' end end' result → At (suc n) os' kernel' held' end'
      has_turned t = by held.task.live refl
        where
          by : (b : Bool) → held.task.live ≡ b → At (suc n) os' kernel' held' end'
          by true is = went is t.prefix (t.goes is)
          by false is =
              let r = t.rests is in
              subst (λ (o : Objects). At (suc n) o kernel' held' end') (sym r.objects)
              (subst (λ k. At (suc n) os k held' end') (sym r.kernel_is)
              (subst (λ (h : Held). At (suc n) os kernel h end') (sym r.client_is)
              (subst (λ (e : Advanced). At (suc n) os kernel held e) (sym r.end_is) (rested os kernel held end a is))))
