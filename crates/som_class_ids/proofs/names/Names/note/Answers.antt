use Rattle.std.proofs.Common.{◌∙◌, ◌++◌, ◌∷◌, [], ap, arith, cond, length, Some, Option, ℕ, ◌≡◌}
use Rattle.std.specs.BTreeMap.{is_at}
use Rattle.std.specs.Cmp.Lexicographic.{slice_cmp}
use Rattle.std.specs.Ordering.{nat_cmp}
use Rattle.som_class_ids.specs.Names.{last_of}
use Rattle.som_class_ids.proofs.Noting.{noted_more}
use Rattle.som_class_ids.proofs.names.Names.note.Goals as goal

pub returns : goal.returns
returns c = λ names noted.
    let at : c.new-class.result ≡ length names = omega (arith, c.new-class.ensures, c.len.ensures, noted.long) in
    noted_more names c.args.name c.args.self.now (record { last = c.insert.new.self; earlier = c.push.new.self }) noted
    (λ q. c.in-Ok.ensures.updates.0 q ∙ ap (λ n. cond (is_at (slice_cmp nat_cmp c.args.name) q) (Some n) (last_of c.args.self.now q)) at)
    (c.in_ok-push.ensures.ok ∙ ap (λ (o : Option ℕ). c.args.self.now.earlier ++ o ∷ []) c.in-Ok.ensures.old)
