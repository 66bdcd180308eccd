-- How many steps are counted: of one step, and of one run after another.
use Rattle.std.proofs.Common.{◌≡◌, ◌≤◌, ◌+◌, ℕ, inl, inr, Bool, true, false, List, [], ◌++◌, Option, Result, Ok, Err, refl, sym, ap, subst, ◌∙◌, arith, append_assoc, append-nil}
use Rattle.std.specs.Prelude.{◌&&◌, is_some}
use Rattle.std.specs.List.{concat}
use Rattle.som_model.specs.declared.key.ClassKey.{ClassKey}
use Rattle.som_model.specs.declared.syntax.Block.{Block}
use Rattle.som_model.specs.Class.{Class}
use Rattle.som_semantics.specs.World.{World}
use Rattle.som_semantics.specs.State.{Event, State, class_of}
use Rattle.som_semantics.specs.Calls.{Request}
use Rattle.som_semantics.specs.RunText.{events_lines, with_prefix}
use Rattle.som_io.specs.Outside.{ShowsFront}
use Rattle.som_io.proofs.ShownLaws.{shows_none}
use Rattle.som_machine_laws.specs.CallBodies.{call_bodies}
use Rattle.som_machine_laws.specs.Counted.{AreWithoutHooks}
use Rattle.som_machine_laws.specs.Frames.{Calling, Frames}
use Rattle.som_meta.specs.Numbering.{Numbering}
use Rattle.som_interp_state.specs.Tests.{runner_tests}
use Rattle.som_interp_state.specs.Settings.{Linked}
use Rattle.som_interp_loop.specs.declared.stop.Stop.{Stop}
use Rattle.som_interp_loop.specs.declared.stop.Stop.TheVariants as stops
use Rattle.som_interp_loop.specs.Scene.{Scene}
use Rattle.som_interp_loop.specs.Counted.{AreFew, Counted, CountsFrom, CountsOn, IsBounded, IsBoundedScene, IsFrom, StopsWith, by_name, first_pends, next_looks, pending, pends, steps_for}
use Rattle.som_interp_loop.specs.Ran.{Going}
use Rattle.som_interp_loop.specs.Stepped.{Outside, Stepped}
use Rattle.som_interp_loop.proofs.Bodied.{called_pends}
use Rattle.som_interp_loop.proofs.Joining.{tells_both}
use Rattle.som_interp_loop.proofs.Looking.{covered, first_most, looks_most, steps_both}

-- fewer classes are made
fewer : (w : World) (cs : List Class) (main : Block) (made more : ClassKey → Bool) (n : ℕ) → ((k : ClassKey) → made k ≡ true → more k ≡ true) → IsBounded w cs main more n → IsBounded w cs main made n
fewer w cs main made more n f (inl (z, d)) = inl (z, record { program = d.program; hooks = λ k m. d.hooks k (f k m) })
fewer w cs main made more n f (inr x) = inr (record { no_hooks = λ k m. x.no_hooks k (f k m); ancestors = λ k m. x.ancestors k (f k m); bodies = x.bodies })

-- before it the program is what it is after it, and fewer classes are made
earlier : (shows : List ℕ → Bool) (prefix : List ℕ) (before after : Option (List ℕ)) (old new : Scene) (r : Result Bool Stop) (es : List Event) → Outside shows prefix before after old new r es → (n : ℕ) → IsBoundedScene new n → IsBoundedScene old n
earlier shows prefix before after old new r es o n d =
    fewer old.linked.world old.known.classes old.main old.made new.made n o.keeps_made
    (subst (λ (l : Linked). IsBounded l.world old.known.classes old.main new.made n) o.keeps.linked
    (subst (λ (k : Numbering). IsBounded new.linked.world k.classes old.main new.made n) o.keeps.classes
    (subst (λ (b : Block). IsBounded new.linked.world new.known.classes b new.made n) o.keeps.main d)))

-- ---- no step

pub count_none : (shows : List ℕ → Bool) (prefix : List ℕ) (before : Option (List ℕ)) (c : Scene) (n : ℕ) → CountsOn shows prefix before before c c n n [] (Ok true)
count_none shows prefix before c now n from = omega arith

-- ---- one step

hookless : (c : Scene) (n : ℕ) → IsBoundedScene c n → AreWithoutHooks c.linked.world c.made
hookless c n (inl (z, d)) = d.hooks
hookless c n (inr x) = x.no_hooks

module _ (shows : List ℕ → Bool) (prefix : List ℕ) (before after : Option (List ℕ)) (old new : Scene) (a b : ℕ) (counted : Counted old a b) where
  looked : (r : Result Bool Stop) (es : List Event) → Outside shows prefix before after old new r es → (n : ℕ) (from : IsFrom n old new) → b ≤ a + next_looks n from.frames.now from.frames.waiting
  looked r es o n from =
      let e = earlier shows prefix before after old new r es o n from.bound in
      counted n from.frames from.state from.stands.at (by e) (hookless old n e)
    where
      by : IsBoundedScene old n → AreFew old from.frames n
      by (inl (z, d)) = inl (z, from.stands.direct d.program)
      by (inr x) = inr x.ancestors

  pends_here : (n : ℕ) (from : IsFrom n old new) → pending n old ≡ pends old.linked.world n from.frames.now
  pends_here n from = ap (pends old.linked.world n) from.stands.at.next.shown

  -- a step that stops has looked up one body at most, and a name for its call and one in it
  more : (r : Result Bool Stop) (es fs : List Event) → Outside shows prefix before after old new r es → CountsFrom old new a b fs
  more r es fs o n from =
      let x = looked r es o n from in
      let y = looks_most old.linked.world n from.frames.now from.frames.waiting in
      let z = pends_here n from in
      omega (arith, x, y, z)

  -- a call by name has a body, or n is none
  first_by : (n : ℕ) (from : IsFrom n old new) → IsBoundedScene old n → (l : ℕ) (q : Request) → from.frames.now ≡ Calling l q → (runner_tests old.linked.world).call q from.state.heap ≡ true → (by_name q.way && is_some (old.linked.world.sig q.method)) ≡ true
      → first_pends n (call_bodies old.linked.world (class_of old.linked.world from.state.heap q.self) q) ≡ n
  first_by n from (inl (z, d)) l q is passed named = let m = first_most n (call_bodies old.linked.world (class_of old.linked.world from.state.heap q.self) q) in omega (arith, m, z)
  first_by n from (inr x) l q is passed named = called_pends old from.frames from.state from.stands.at x.bodies n l q is passed named

  on : (p : Stepped shows prefix before after old new (Ok true)) → (n : ℕ) → IsFrom n old new → b + pending n old ≤ a + steps_for n p.events + pending n new
  on p n from =
      let x = looked (Ok true) p.events p.outside n from in
      let w = p.comes from.frames from.state from.stands.at in
      let e = earlier shows prefix before after old new (Ok true) p.events p.outside n from.bound in
      let y = covered old.linked.world n (runner_tests old.linked.world) from.frames.waiting w.frames from.state w.then p.events w.events from.frames.now (first_by n from e) w.is in
      let z = pends_here n from in
      let end : pending n new ≡ pends old.linked.world n w.frames.now = ap (pends new.linked.world n) w.at.next.shown ∙ ap (λ (l : Linked). pends l.world n w.frames.now) p.outside.keeps.linked in
      omega (arith, x, y, z, end)

  -- of one that didn't come to its end no event came
  short : (r : Result Bool Stop) (es : List Event) → Outside shows prefix before after old new r es → StopsWith shows prefix before after es [] (CountsFrom old new a b)
  short r es o = record {
    came = [];
    rest = es;
    events = refl;
    between = before;
    tells = shows_none before;
    front = subst (λ ls. ShowsFront before after (concat (with_prefix prefix ls))) (sym (append-nil (events_lines shows es))) o.front;
    count = more r es [] o;
  }

  pub count_one : (r : Result Bool Stop) (p : Stepped shows prefix before after old new r) → CountsOn shows prefix before after old new a b p.events r
  count_one (Ok true) p = on p
  count_one (Ok false) p = more (Ok false) p.events p.events p.outside
  count_one (Err (stops.Fault f at)) p = more (Err (stops.Fault f at)) p.events p.events p.outside
  count_one (Err stops.Spent) p = more (Err stops.Spent) p.events p.events p.outside
  count_one (Err stops.SinkFailed) p = short (Err stops.SinkFailed) p.events p.outside
  count_one (Err stops.NoMemory) p = short (Err stops.NoMemory) p.events p.outside

-- ---- a run, and then another

module _ (shows : List ℕ → Bool) (prefix : List ℕ) (before mid after : Option (List ℕ)) (old now new : Scene) (es fs : List Event)
    (comes : (n : ℕ) (from : IsFrom n old new) → Going now from.means from.granted from.state es) (first : Outside shows prefix before mid old now (Ok true) es) (a b c : ℕ) (p : CountsOn shows prefix before mid old now a b es (Ok true)) where
  -- it starts where the first did, and where that came to
  from_first : (r : Result Bool Stop) → Outside shows prefix mid after now new r fs → (n : ℕ) → IsFrom n old new → IsFrom n old now
  from_first r o n from = record { means = from.means; granted = from.granted; frames = from.frames; state = from.state; stands = from.stands; bound = earlier shows prefix mid after now new r fs o n from.bound }

  from_then : (n : ℕ) → IsFrom n old new → IsFrom n now new
  from_then n from = let g = comes n from in record { means = from.means; granted = from.granted; frames = g.frames; state = g.then; stands = g.stands; bound = from.bound }

  sum : (r : Result Bool Stop) → Outside shows prefix mid after now new r fs → (gs : List Event) → CountsFrom now new b c gs → CountsFrom old new a c (es ++ gs)
  sum r o gs q n from =
      let x = p n (from_first r o n from) in
      let y = q n (from_then n from) in
      let e = steps_both n es gs in
      omega (arith, x, y, e)

  exactly : Outside shows prefix mid after now new (Ok true) fs → CountsOn shows prefix mid after now new b c fs (Ok true) → CountsOn shows prefix before after old new a c (es ++ fs) (Ok true)
  exactly o q n from =
      let x = p n (from_first (Ok true) o n from) in
      let y = q n (from_then n from) in
      let e = steps_both n es fs in
      omega (arith, x, y, e)

  -- what came before it stopped short, came of both
  short_both : (r : Result Bool Stop) → Outside shows prefix mid after now new r fs → StopsWith shows prefix mid after fs [] (CountsFrom now new b c) → StopsWith shows prefix before after (es ++ fs) [] (CountsFrom old new a c)
  short_both r o q = record {
    came = es ++ q.came;
    rest = q.rest;
    events = ap (λ z. es ++ z) q.events ∙ sym (append_assoc es q.came q.rest);
    between = q.between;
    tells = tells_both shows prefix before mid q.between es q.came first.tells q.tells;
    front = q.front;
    count = sum r o q.came q.count;
  }

  pub count_then : (r : Result Bool Stop) → Outside shows prefix mid after now new r fs → CountsOn shows prefix mid after now new b c fs r → CountsOn shows prefix before after old new a c (es ++ fs) r
  count_then (Ok true) o q = exactly o q
  count_then (Ok false) o q = sum (Ok false) o fs q
  count_then (Err (stops.Fault f at)) o q = sum (Err (stops.Fault f at)) o fs q
  count_then (Err stops.Spent) o q = sum (Err stops.Spent) o fs q
  count_then (Err stops.SinkFailed) o q = short_both (Err stops.SinkFailed) o q
  count_then (Err stops.NoMemory) o q = short_both (Err stops.NoMemory) o q
