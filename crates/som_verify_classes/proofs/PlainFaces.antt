-- The rules S1 to S4 and S6 to S10 together.
use Rattle.std.proofs.Common.{◌≡◌, List, flat_map, Option, Some, None, refl}
use Rattle.som_model.specs.Lists.{first, or_else}
use Rattle.som_model.specs.Class.{Class}
use Rattle.som_model.specs.Kernel.{kernel}
use Rattle.som_model.specs.Conforming.{each_after, first_of_names, first_of_members}
use Rattle.som_model.specs.Rules.{s1, s2, s3, s4, s6, s7, s8, s9, s10}
use Rattle.som_verify_classes.specs.Modules.{AreDeclared}
use Rattle.som_verify_classes.specs.Places.{with_kernel}
use Rattle.som_verify_classes.specs.Plainly.{ClassesHold}
use Rattle.som_verify_classes.proofs.Conformity.{or_none, none_or}
use Rattle.som_verify_classes.proofs.PlainNames.{names_say, say_names, parents_say, say_parents, parents_differ_say, say_parents_differ}
use Rattle.som_verify_classes.proofs.PlainMembers.{entries_say, say_entries, variables_say, say_variables}
use Rattle.som_verify_classes.proofs.PlainMoves.{metaclasses_say, say_metaclasses, once_says, say_once, moved_says, say_moved, overrides_say}
use Rattle.som_verify_classes.proofs.PlainSelects.{selects_say, say_replaced}

pub classes_say : (cs : List Class) → AreDeclared cs → first_of_names kernel cs ≡ None → first_of_members kernel cs ≡ None → ClassesHold cs
classes_say cs o e f =
    let all = with_kernel cs in
    let r1 = or_none (first (each_after s1 kernel cs)) (or_else (first (each_after s2 kernel cs)) (or_else (first (flat_map s3 cs)) (first (flat_map (s4 all) cs)))) e in
    let r2 = or_none (first (each_after s2 kernel cs)) (or_else (first (flat_map s3 cs)) (first (flat_map (s4 all) cs))) r1.1 in
    let r3 = or_none (first (flat_map s3 cs)) (first (flat_map (s4 all) cs)) r2.1 in
    let r6 = or_none (first (flat_map s6 cs)) (or_else (first (flat_map s7 cs)) (or_else (first (flat_map (s8 all) cs)) (or_else (first (flat_map (s9 all) cs)) (first (flat_map (s10 all) cs))))) f in
    let r7 = or_none (first (flat_map s7 cs)) (or_else (first (flat_map (s8 all) cs)) (or_else (first (flat_map (s9 all) cs)) (first (flat_map (s10 all) cs)))) r6.1 in
    let r8 = or_none (first (flat_map (s8 all) cs)) (or_else (first (flat_map (s9 all) cs)) (first (flat_map (s10 all) cs))) r7.1 in
    let r9 = or_none (first (flat_map (s9 all) cs)) (first (flat_map (s10 all) cs)) r8.1 in
    let names = names_say cs r1.0 in
    let stand = parents_say cs r2.0 in
    let entries = entries_say cs r6.0 in
    record {
      names = names;
      stand = stand;
      parents = parents_differ_say cs r3.0;
      metaclasses = metaclasses_say cs o names stand r3.1;
      entries = entries;
      variables = variables_say cs r7.0;
      once = once_says cs o names stand entries r8.0;
      moved = moved_says cs o names stand r9.0;
      overrides = overrides_say cs o names stand r9.1;
      selects = selects_say cs o names stand r9.1;
    }

pub say_names_rules : (cs : List Class) → AreDeclared cs → ClassesHold cs → first_of_names kernel cs ≡ None
say_names_rules cs o h =
    none_or _ _ (say_names cs h.names) (none_or _ _ (say_parents cs h.stand) (none_or _ _ (say_parents_differ cs h.parents) (say_metaclasses cs o h.names h.stand h.metaclasses)))

pub say_member_rules : (cs : List Class) → AreDeclared cs → ClassesHold cs → first_of_members kernel cs ≡ None
say_member_rules cs o h =
    none_or _ _ (say_entries cs h.entries) (none_or _ _ (say_variables cs h.variables) (none_or _ _ (say_once cs o h.names h.stand h.entries h.once)
    (none_or _ _ (say_moved cs o h.names h.stand h.entries h.moved) (say_replaced cs o h.names h.stand h.entries h.overrides h.selects))))
