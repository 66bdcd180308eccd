use Rattle.std.proofs.Common.{◌<◌, ◌≤◌, ℕ, length, arith}
use Rattle.som_lex.proofs.Spans.{in_order, at_place}
use Rattle.som_lex.proofs.token.Tokens.text_of.Goals as goal

pub split_at-requires : goal.split_at-requires
split_at-requires c =
    rw (c.as_slice.ensures, c.as_slice-2.ensures) (at_place 0 (length c.args.self.now.source) c.args.self.now.list c.args.place _ (in_order c.args.self.now.source c.args.self.now.list c.requires.tokens) c.requires.place).1

under : (m n : ℕ) → m < n → m ≤ n
under m n h = omega arith

pub split_at-requires-2 : goal.split_at-requires-2
split_at-requires-2 c =
    rw (c.split_at.ensures.front_len, c.as_slice.ensures) (under _ _ (at_place 0 (length c.args.self.now.source) c.args.self.now.list c.args.place _ (in_order c.args.self.now.source c.args.self.now.list c.requires.tokens) c.requires.place).0)
