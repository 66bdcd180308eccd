use Rattle.std.proofs.Common.{◌≡◌, true, false, Ok, refl, subst, arith}
use Rattle.som_code.specs.declared.instruction.Instruction.TheVariants as ops
use Rattle.som_semantics.specs.Values.{text_of}
use Rattle.som_values.specs.Shown.{shown}
use Rattle.som_interp_state.specs.declared.frames.Now.TheVariants as nows
use Rattle.som_interp_state.specs.Settings.{shows}
use Rattle.som_interp_ops.specs.Cells.{top_cell}
use Rattle.som_interp_loop.specs.Scene.{scene, setting_of}
use Rattle.som_interp_loop.specs.declared.stop.Stop.TheVariants as stops
use Rattle.som_interp_loop.specs.NextInstruction.{is_call}
use Rattle.som_interp_body.specs.Obeying.{following, is_plain}
use Rattle.som_interp_loop.proofs.Knowing.{closed_all}
use Rattle.som_interp_body.proofs.Placing.{class_key, has_code, next_none, next_some, plain_left, proxy_key, top_classed}
use Rattle.som_interp_body.proofs.Special.{end_comes, return_comes, value_comes}
use Rattle.som_interp_body.proofs.Varying.{top_own}
use Rattle.som_interp_body.proofs.Whole.{keeps_still, print_obeyed, quietly, use_obeyed}
use Rattle.som_interp_body.proofs.step.obey_in_place.Goals as goal

pub get-code-requires : goal.get-code-requires
get-code-requires g c =
    has_code c.args.task.now.codes c.args.body.now.code c.requires.running.2.next.own.code

pub returns-then-body-len-clause-obeyed : goal.returns-then-body-len-clause-obeyed
returns-then-body-len-clause-obeyed g c =
    let r = c.args.runtime.now in
    let l = g.R.Runtime.linked r in
    let kn = g.R.ClassKeys.known r in
    let main = g.R.Runtime.program r in
    let made = g.R.Classes.made r in
    let os = c.args.objects.now in
    let t = c.args.task.now in
    let f = c.args.fuel.now in
    let b = c.args.body.now in
    let was = scene l kn main made os t f in
    let set = setting_of was in
    let prefix = c.args.prefix.now in
    let w = g.K.Sink.written c.args.out.now in
    let known = c.know.ensures in
    let closed = closed_all (g.R.Classes.keys r) (g.R.Classes.world r) kn l known.agree main made known.loads known.closed in
    quietly prefix w was was b (Ok (nows.Answering c.zero_cell.result)) refl (end_comes l kn main made os t closed b f c.zero_cell.result (c.zero_cell.ensures.means (shows set)) (c.zero_cell.ensures.own (shows set) os) (next_none t.codes b.code b.at c.len.result c.get-code.result.now c.get-code.ensures c.len.ensures.value c.if-body-len.true))

pub returns-then-body-len-clause-keeps : goal.returns-then-body-len-clause-keeps
returns-then-body-len-clause-keeps g c =
    let r = c.args.runtime.now in
    let l = g.R.Runtime.linked r in
    let kn = g.R.ClassKeys.known r in
    let main = g.R.Runtime.program r in
    let made = g.R.Classes.made r in
    let os = c.args.objects.now in
    let t = c.args.task.now in
    let f = c.args.fuel.now in
    let b = c.args.body.now in
    let was = scene l kn main made os t f in
    let set = setting_of was in
    let prefix = c.args.prefix.now in
    let w = g.K.Sink.written c.args.out.now in
    keeps_still l l kn kn main main made made os t t f f refl refl refl refl refl refl refl

pub returns-in-Return-clause-obeyed : goal.returns-in-Return-clause-obeyed
returns-in-Return-clause-obeyed g c =
    let r = c.args.runtime.now in
    let l = g.R.Runtime.linked r in
    let kn = g.R.ClassKeys.known r in
    let main = g.R.Runtime.program r in
    let made = g.R.Classes.made r in
    let os = c.args.objects.now in
    let t = c.args.task.now in
    let f = c.args.fuel.now in
    let b = c.args.body.now in
    let was = scene l kn main made os t f in
    let set = setting_of was in
    let prefix = c.args.prefix.now in
    let w = g.K.Sink.written c.args.out.now in
    let known = c.know.ensures in
    let closed = closed_all (g.R.Classes.keys r) (g.R.Classes.world r) kn l known.agree main made known.loads known.closed in
    quietly prefix w was was b (Ok (nows.Answering c.zero_cell-in-Return.result)) refl (return_comes l kn main made os t closed b f c.zero_cell-in-Return.result (c.zero_cell-in-Return.ensures.means (shows set)) (c.zero_cell-in-Return.ensures.own (shows set) os) (next_some t.codes b.code b.at c.get-code.result.now c.at.result.now ops.Return c.get-code.ensures c.at.ensures.value c.in-Return.is))

pub returns-in-Return-clause-keeps : goal.returns-in-Return-clause-keeps
returns-in-Return-clause-keeps g c =
    let r = c.args.runtime.now in
    let l = g.R.Runtime.linked r in
    let kn = g.R.ClassKeys.known r in
    let main = g.R.Runtime.program r in
    let made = g.R.Classes.made r in
    let os = c.args.objects.now in
    let t = c.args.task.now in
    let f = c.args.fuel.now in
    let b = c.args.body.now in
    let was = scene l kn main made os t f in
    let set = setting_of was in
    let prefix = c.args.prefix.now in
    let w = g.K.Sink.written c.args.out.now in
    keeps_still l l kn kn main main made made os t t f f refl refl refl refl refl refl refl

pub returns-in-ReturnValue-clause-obeyed : goal.returns-in-ReturnValue-clause-obeyed
returns-in-ReturnValue-clause-obeyed g c =
    let r = c.args.runtime.now in
    let l = g.R.Runtime.linked r in
    let kn = g.R.ClassKeys.known r in
    let main = g.R.Runtime.program r in
    let made = g.R.Classes.made r in
    let os = c.args.objects.now in
    let t = c.args.task.now in
    let f = c.args.fuel.now in
    let b = c.args.body.now in
    let was = scene l kn main made os t f in
    let set = setting_of was in
    let prefix = c.args.prefix.now in
    let w = g.K.Sink.written c.args.out.now in
    let known = c.know.ensures in
    let closed = closed_all (g.R.Classes.keys r) (g.R.Classes.world r) kn l known.agree main made known.loads known.closed in
    quietly prefix w was was b (Ok (nows.Answering c.pop.result)) refl (value_comes l kn main made os t closed b f c.pop.result c.pop.ensures.cell (next_some t.codes b.code b.at c.get-code.result.now c.at.result.now ops.ReturnValue c.get-code.ensures c.at.ensures.value c.in-ReturnValue.is))

pub returns-in-ReturnValue-clause-keeps : goal.returns-in-ReturnValue-clause-keeps
returns-in-ReturnValue-clause-keeps g c =
    let r = c.args.runtime.now in
    let l = g.R.Runtime.linked r in
    let kn = g.R.ClassKeys.known r in
    let main = g.R.Runtime.program r in
    let made = g.R.Classes.made r in
    let os = c.args.objects.now in
    let t = c.args.task.now in
    let f = c.args.fuel.now in
    let b = c.args.body.now in
    let was = scene l kn main made os t f in
    let set = setting_of was in
    let prefix = c.args.prefix.now in
    let w = g.K.Sink.written c.args.out.now in
    keeps_still l l kn kn main main made made os t t f f refl refl refl refl refl refl refl

pub returns-in-Turn-clause-obeyed : goal.returns-in-Turn-clause-obeyed
returns-in-Turn-clause-obeyed g c =
    let r = c.args.runtime.now in
    let l = g.R.Runtime.linked r in
    let kn = g.R.ClassKeys.known r in
    let main = g.R.Runtime.program r in
    let made = g.R.Classes.made r in
    let os = c.args.objects.now in
    let t = c.args.task.now in
    let f = c.args.fuel.now in
    let b = c.args.body.now in
    let was = scene l kn main made os t f in
    let set = setting_of was in
    let prefix = c.args.prefix.now in
    let w = g.K.Sink.written c.args.out.now in
    let known = c.know.ensures in
    let closed = closed_all (g.R.Classes.keys r) (g.R.Classes.world r) kn l known.agree main made known.loads known.closed in
    quietly prefix w was (scene l kn main made os t c.turn.new.fuel) b (following c.turn.result c.turn.new.body) refl (c.turn.ensures.comes l kn main made os t closed (next_some t.codes b.code b.at c.get-code.result.now c.at.result.now ops.Turn c.get-code.ensures c.at.ensures.value c.in-Turn.is))

pub returns-in-Turn-clause-keeps : goal.returns-in-Turn-clause-keeps
returns-in-Turn-clause-keeps g c =
    let r = c.args.runtime.now in
    let l = g.R.Runtime.linked r in
    let kn = g.R.ClassKeys.known r in
    let main = g.R.Runtime.program r in
    let made = g.R.Classes.made r in
    let os = c.args.objects.now in
    let t = c.args.task.now in
    let f = c.args.fuel.now in
    let b = c.args.body.now in
    let was = scene l kn main made os t f in
    let set = setting_of was in
    let prefix = c.args.prefix.now in
    let w = g.K.Sink.written c.args.out.now in
    keeps_still l l kn kn main main made made os t t f c.turn.new.fuel refl refl refl refl refl refl refl

pub class_object-requires-clause-key : goal.class_object-requires-clause-key
class_object-requires-clause-key g c =
    let r = c.args.runtime.now in
    let l = g.R.Runtime.linked r in
    let kn = g.R.ClassKeys.known r in
    let main = g.R.Runtime.program r in
    let made = g.R.Classes.made r in
    let os = c.args.objects.now in
    let t = c.args.task.now in
    let f = c.args.fuel.now in
    let b = c.args.body.now in
    let was = scene l kn main made os t f in
    let set = setting_of was in
    let prefix = c.args.prefix.now in
    let w = g.K.Sink.written c.args.out.now in
    let known = c.know.ensures in
    class_key (g.R.Classes.keys r) (g.R.Classes.world r) kn l main made known.agree known.loads known.numbers t.codes c.requires.running.2.around.codes b.code b.at c.requires.running.2.next.own.code c.in-Class.class (next_some t.codes b.code b.at c.get-code.result.now c.at.result.now (ops.Class c.in-Class.class) c.get-code.ensures c.at.ensures.value c.in-Class.is)

pub returns-in-Class-clause-obeyed : goal.returns-in-Class-clause-obeyed
returns-in-Class-clause-obeyed g c =
    let r = c.args.runtime.now in
    let l = g.R.Runtime.linked r in
    let kn = g.R.ClassKeys.known r in
    let main = g.R.Runtime.program r in
    let made = g.R.Classes.made r in
    let os = c.args.objects.now in
    let t = c.args.task.now in
    let f = c.args.fuel.now in
    let b = c.args.body.now in
    let was = scene l kn main made os t f in
    let set = setting_of was in
    let prefix = c.args.prefix.now in
    let w = g.K.Sink.written c.args.out.now in
    let q = c.class_object.new.runtime in
    let m = c.class_object.ensures in
    use_obeyed prefix w was (scene (g.R.Runtime.linked q) (g.R.ClassKeys.known q) (g.R.Runtime.program q) (g.R.Classes.made q) os t f) b c.class_object.new.body c.class_object.result c.in-Class.class m.keeps m.only m.wants m.made (m.comes os t f (next_some t.codes b.code b.at c.get-code.result.now c.at.result.now (ops.Class c.in-Class.class) c.get-code.ensures c.at.ensures.value c.in-Class.is))

pub returns-in-Class-clause-keeps : goal.returns-in-Class-clause-keeps
returns-in-Class-clause-keeps g c =
    let r = c.args.runtime.now in
    let l = g.R.Runtime.linked r in
    let kn = g.R.ClassKeys.known r in
    let main = g.R.Runtime.program r in
    let made = g.R.Classes.made r in
    let os = c.args.objects.now in
    let t = c.args.task.now in
    let f = c.args.fuel.now in
    let b = c.args.body.now in
    let was = scene l kn main made os t f in
    let set = setting_of was in
    let prefix = c.args.prefix.now in
    let w = g.K.Sink.written c.args.out.now in
    let q = c.class_object.new.runtime in
    let m = c.class_object.ensures in
    keeps_still l (g.R.Runtime.linked q) kn (g.R.ClassKeys.known q) main (g.R.Runtime.program q) made (g.R.Classes.made q) os t t f f m.linked m.known m.program refl refl refl refl

pub returns-in-Class-clause-cause : goal.returns-in-Class-clause-cause
returns-in-Class-clause-cause g c e =
    absurd (let d : stops.SinkFailed ≡ stops.NoMemory = c.class_object.ensures.wants stops.SinkFailed e in cc)

pub returns-in-Class-clause-calm_answer : goal.returns-in-Class-clause-calm_answer
returns-in-Class-clause-calm_answer g c calm e =
    let d : stops.SinkFailed ≡ stops.NoMemory = c.class_object.ensures.wants stops.SinkFailed e in cc

pub returns-in-Print-clause-obeyed : goal.returns-in-Print-clause-obeyed
returns-in-Print-clause-obeyed g c =
    let r = c.args.runtime.now in
    let l = g.R.Runtime.linked r in
    let kn = g.R.ClassKeys.known r in
    let main = g.R.Runtime.program r in
    let made = g.R.Classes.made r in
    let os = c.args.objects.now in
    let t = c.args.task.now in
    let f = c.args.fuel.now in
    let b = c.args.body.now in
    let was = scene l kn main made os t f in
    let set = setting_of was in
    let prefix = c.args.prefix.now in
    let w = g.K.Sink.written c.args.out.now in
    let known = c.know.ensures in
    let closed = closed_all (g.R.Classes.keys r) (g.R.Classes.world r) kn l known.agree main made known.loads known.closed in
    print_obeyed prefix w (g.K.Sink.written c.print.new.out) was b (following c.print.result c.print.new.body) (text_of (shown (shows set) (top_cell b.operands.items))) (c.print.ensures.tells (shows set)) (c.print.ensures.front (shows set)) (c.print.ensures.comes l kn main made os t f closed (next_some t.codes b.code b.at c.get-code.result.now c.at.result.now ops.Print c.get-code.ensures c.at.ensures.value c.in-Print.is))

pub returns-in-Print-clause-keeps : goal.returns-in-Print-clause-keeps
returns-in-Print-clause-keeps g c =
    let r = c.args.runtime.now in
    let l = g.R.Runtime.linked r in
    let kn = g.R.ClassKeys.known r in
    let main = g.R.Runtime.program r in
    let made = g.R.Classes.made r in
    let os = c.args.objects.now in
    let t = c.args.task.now in
    let f = c.args.fuel.now in
    let b = c.args.body.now in
    let was = scene l kn main made os t f in
    let set = setting_of was in
    let prefix = c.args.prefix.now in
    let w = g.K.Sink.written c.args.out.now in
    keeps_still l l kn kn main main made made os t t f f refl refl refl refl refl refl refl

pub get_variable-requires-clause-running : goal.get_variable-requires-clause-running
get_variable-requires-clause-running g c =
    (c.args.fuel.now, c.requires.running)

pub returns-in-GetVariable-clause-obeyed : goal.returns-in-GetVariable-clause-obeyed
returns-in-GetVariable-clause-obeyed g c =
    let r = c.args.runtime.now in
    let l = g.R.Runtime.linked r in
    let kn = g.R.ClassKeys.known r in
    let main = g.R.Runtime.program r in
    let made = g.R.Classes.made r in
    let os = c.args.objects.now in
    let t = c.args.task.now in
    let f = c.args.fuel.now in
    let b = c.args.body.now in
    let was = scene l kn main made os t f in
    let set = setting_of was in
    let prefix = c.args.prefix.now in
    let w = g.K.Sink.written c.args.out.now in
    quietly prefix w was was b (following c.get_variable.result c.get_variable.new.body) refl (c.get_variable.ensures.comes f (next_some t.codes b.code b.at c.get-code.result.now c.at.result.now (ops.GetVariable c.in-GetVariable.variable) c.get-code.ensures c.at.ensures.value c.in-GetVariable.is))

pub returns-in-GetVariable-clause-keeps : goal.returns-in-GetVariable-clause-keeps
returns-in-GetVariable-clause-keeps g c =
    let r = c.args.runtime.now in
    let l = g.R.Runtime.linked r in
    let kn = g.R.ClassKeys.known r in
    let main = g.R.Runtime.program r in
    let made = g.R.Classes.made r in
    let os = c.args.objects.now in
    let t = c.args.task.now in
    let f = c.args.fuel.now in
    let b = c.args.body.now in
    let was = scene l kn main made os t f in
    let set = setting_of was in
    let prefix = c.args.prefix.now in
    let w = g.K.Sink.written c.args.out.now in
    keeps_still l l kn kn main main made made os t t f f refl refl refl refl refl refl refl

pub set_variable-requires-clause-running : goal.set_variable-requires-clause-running
set_variable-requires-clause-running g c =
    (c.args.fuel.now, c.requires.running)

pub set_variable-requires-clause-is : goal.set_variable-requires-clause-is
set_variable-requires-clause-is g c n =
    let r = c.args.runtime.now in
    let l = g.R.Runtime.linked r in
    let kn = g.R.ClassKeys.known r in
    let main = g.R.Runtime.program r in
    let made = g.R.Classes.made r in
    let os = c.args.objects.now in
    let t = c.args.task.now in
    let f = c.args.fuel.now in
    let b = c.args.body.now in
    let was = scene l kn main made os t f in
    let set = setting_of was in
    let prefix = c.args.prefix.now in
    let w = g.K.Sink.written c.args.out.now in
    (next_some t.codes b.code b.at c.get-code.result.now c.at.result.now (ops.SetVariable c.in-SetVariable.variable) c.get-code.ensures c.at.ensures.value c.in-SetVariable.is)

pub returns-in-SetVariable-clause-obeyed : goal.returns-in-SetVariable-clause-obeyed
returns-in-SetVariable-clause-obeyed g c =
    let r = c.args.runtime.now in
    let l = g.R.Runtime.linked r in
    let kn = g.R.ClassKeys.known r in
    let main = g.R.Runtime.program r in
    let made = g.R.Classes.made r in
    let os = c.args.objects.now in
    let t = c.args.task.now in
    let f = c.args.fuel.now in
    let b = c.args.body.now in
    let was = scene l kn main made os t f in
    let set = setting_of was in
    let prefix = c.args.prefix.now in
    let w = g.K.Sink.written c.args.out.now in
    quietly prefix w was (scene l kn main made c.set_variable.new.objects c.set_variable.new.task f) b (following c.set_variable.result c.set_variable.new.body) refl (c.set_variable.ensures.comes f)

pub returns-in-SetVariable-clause-keeps : goal.returns-in-SetVariable-clause-keeps
returns-in-SetVariable-clause-keeps g c =
    c.set_variable.ensures.keeps c.args.fuel.now

pub proxy_of-number-requires : goal.proxy_of-number-requires
proxy_of-number-requires g c =
    let r = c.args.runtime.now in
    let l = g.R.Runtime.linked r in
    let kn = g.R.ClassKeys.known r in
    let main = g.R.Runtime.program r in
    let made = g.R.Classes.made r in
    let os = c.args.objects.now in
    let t = c.args.task.now in
    let f = c.args.fuel.now in
    let b = c.args.body.now in
    let was = scene l kn main made os t f in
    let set = setting_of was in
    let prefix = c.args.prefix.now in
    let w = g.K.Sink.written c.args.out.now in
    let known = c.know.ensures in
    proxy_key (g.R.Classes.keys r) (g.R.Classes.world r) kn l main made known.agree known.loads known.numbers t.codes c.requires.running.2.around.codes b.code b.at c.requires.running.2.next.own.code c.in-Proxy.class (next_some t.codes b.code b.at c.get-code.result.now c.at.result.now (ops.Proxy c.in-Proxy.class) c.get-code.ensures c.at.ensures.value c.in-Proxy.is)

pub proxy-requires-clause-is : goal.proxy-requires-clause-is
proxy-requires-clause-is g c =
    let r = c.args.runtime.now in
    let l = g.R.Runtime.linked r in
    let kn = g.R.ClassKeys.known r in
    let main = g.R.Runtime.program r in
    let made = g.R.Classes.made r in
    let os = c.args.objects.now in
    let t = c.args.task.now in
    let f = c.args.fuel.now in
    let b = c.args.body.now in
    let was = scene l kn main made os t f in
    let set = setting_of was in
    let prefix = c.args.prefix.now in
    let w = g.K.Sink.written c.args.out.now in
    (c.in-Proxy.class, c.proxy_of-number.ensures.key, (next_some t.codes b.code b.at c.get-code.result.now c.at.result.now (ops.Proxy c.in-Proxy.class) c.get-code.ensures c.at.ensures.value c.in-Proxy.is))

pub returns-in-Proxy-clause-obeyed : goal.returns-in-Proxy-clause-obeyed
returns-in-Proxy-clause-obeyed g c =
    c.proxy.ensures.obeyed c.args.prefix.now (g.K.Sink.written c.args.out.now)

pub obey_plain-requires : goal.obey_plain-requires
obey_plain-requires g c =
    let r = c.args.runtime.now in
    let l = g.R.Runtime.linked r in
    let kn = g.R.ClassKeys.known r in
    let main = g.R.Runtime.program r in
    let made = g.R.Classes.made r in
    let os = c.args.objects.now in
    let t = c.args.task.now in
    let f = c.args.fuel.now in
    let b = c.args.body.now in
    let was = scene l kn main made os t f in
    let set = setting_of was in
    let prefix = c.args.prefix.now in
    let w = g.K.Sink.written c.args.out.now in
    let known = c.know.ensures in
    let d = c.in_default in
    let call = subst (λ o. is_call o ≡ false) (next_some t.codes b.code b.at c.get-code.result.now c.at.result.now c.at.result.now c.get-code.ensures c.at.ensures.value refl) c.requires.no_call in
    let kind : is_plain c.at.result.now ≡ true = plain_left c.at.result.now d.not-Turn d.not-Class d.not-Print d.not-Return d.not-ReturnValue d.not-GetVariable d.not-SetVariable d.not-Proxy call in
    record {
      room = omega (arith, c.if-body-len.false, c.len.type_inv);
      kind = kind;
      kept = (top_own l kn main made os t f b c.requires.running.0 c.requires.running.1 c.requires.running.2).1;
      classed = top_classed (g.R.Classes.keys r) l kn main made os t f b c.requires.running.0 c.requires.running.1 known.agree.linked_numbers c.requires.running.2;
    }

pub returns-in_default : goal.returns-in_default
returns-in_default g c =
    let r = c.args.runtime.now in
    let l = g.R.Runtime.linked r in
    let kn = g.R.ClassKeys.known r in
    let main = g.R.Runtime.program r in
    let made = g.R.Classes.made r in
    let os = c.args.objects.now in
    let t = c.args.task.now in
    let f = c.args.fuel.now in
    let b = c.args.body.now in
    let was = scene l kn main made os t f in
    let set = setting_of was in
    let prefix = c.args.prefix.now in
    let w = g.K.Sink.written c.args.out.now in
    let quiet = c.obey_plain.ensures in
    record {
      obeyed = quietly prefix w was was b (following c.obey_plain.result c.obey_plain.new.body) refl (quiet.comes t f (next_some t.codes b.code b.at c.get-code.result.now c.at.result.now c.at.result.now c.get-code.ensures c.at.ensures.value refl));
      keeps = keeps_still l l kn kn main main made made os t t f f refl refl refl refl refl refl refl;
      later = omega arith;
      cause = λ e. absurd (quiet.sound e);
      calm_stays = λ x. x;
      calm_count = λ x. refl;
      calm_answer = λ x e. quiet.sound e;
    }
