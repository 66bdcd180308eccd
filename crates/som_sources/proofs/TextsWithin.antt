-- Trees of texts are within their limits, and no block has more statements than its text has bytes.
use Rattle.std.proofs.Common.{◌≡◌, ℕ, ◌<◌, ◌≤◌, ◌^◌, List, length, Ok, All, ap, arith}
use Rattle.std.specs.List.{AllByRecursion}
use Rattle.som_model.specs.declared.limits.TheConstants.{MAX_BYTES}
use Rattle.som_lex.specs.declared.token.Tokens.{Tokens}
use Rattle.som_lex.specs.Spans.{IsSpelled}
use Rattle.som_lex.proofs.Spans.{all_spelled}
use Rattle.som_idl.specs.Within.{FileWithin}
use Rattle.som_idl.proofs.WithinLimits.{tree_within}
use Rattle.som_ast.specs.declared.body.BodyFile.{BodyFile}
use Rattle.som_ast.specs.declared.body.MainFile.{MainFile}
use Rattle.som_body.specs.Within.{BodyFileWithin, MainFileWithin}
use Rattle.som_body.proofs.WithinLimits.{bodies_tree_within, main_tree_within}
use Rattle.som_sources.specs.declared.kind.SourceKind.{SourceKind}
use Rattle.som_sources.specs.declared.kind.SourceKind.TheVariants as kinds
use Rattle.som_sources.specs.declared.source.Source.{Source}
use Rattle.som_sources.specs.declared.trees.TextTree.{TextTree}
use Rattle.som_sources.specs.declared.trees.TextTree.TheVariants as trees
use Rattle.som_sources.specs.declared.trees.Trees.{Trees}
use Rattle.som_sources.specs.Reading.{IsParsed, Reads, a_tree, ReadsAll, no_more, one_more, with_first}
use Rattle.som_sources.specs.Sources.{bytes_in, kind_of}
use Rattle.som_sources.proofs.FewTokens.{few_tokens}

-- a file of bodies whose statements can be counted
pub record IsShortFile (f : BodyFile) : Type 0 where
  pub most : ℕ
  pub few : most < 2 ^ 32
  pub within : BodyFileWithin most f

-- a main whose statements can be counted
pub record IsShortMain (f : MainFile) : Type 0 where
  pub most : ℕ
  pub few : most < 2 ^ 32
  pub within : MainFileWithin most f

-- the tree of a text
abbrev TreeWithin : TextTree → Type 0
TreeWithin (trees.Interfaces f) = FileWithin f
TreeWithin (trees.Bodies f) = IsShortFile f
TreeWithin (trees.Main f) = IsShortMain f

parsed_within : (k : SourceKind) (t : Tokens) (f : TextTree) → IsParsed k t (Ok f) → All (IsSpelled t.source) t.list → length t.list < 2 ^ 32 → TreeWithin f
parsed_within kinds.Interfaces t (trees.Interfaces f) x spelled few = tree_within t f x spelled
parsed_within kinds.Interfaces t (trees.Bodies f) x spelled few = absurd x
parsed_within kinds.Interfaces t (trees.Main f) x spelled few = absurd x
parsed_within kinds.Bodies t (trees.Interfaces f) x spelled few = absurd x
parsed_within kinds.Bodies t (trees.Bodies f) x spelled few = record { most = length t.list; few = few; within = bodies_tree_within t f x spelled }
parsed_within kinds.Bodies t (trees.Main f) x spelled few = absurd x
parsed_within kinds.Main t (trees.Interfaces f) x spelled few = absurd x
parsed_within kinds.Main t (trees.Bodies f) x spelled few = absurd x
parsed_within kinds.Main t (trees.Main f) x spelled few = record { most = length t.list; few = few; within = main_tree_within t f x spelled }

read_within : (s : Source) (f : TextTree) → length s.bytes ≤ MAX_BYTES → Reads s (Ok f) → TreeWithin f
read_within s f le (a_tree t _ e c x) =
    let few : length t.list ≤ length t.source = few_tokens t c in
    let same : length t.source ≡ length s.bytes = ap (λ (bs : List ℕ). length bs) e in
    parsed_within (kind_of s.name) t f x (all_spelled t.source 0 t.list c) (omega (arith, few, same, le))

-- the trees of all texts
pub record TreesWithin (ts : Trees) : Type 0 where
  pub interfaces : AllByRecursion FileWithin ts.interfaces
  pub bodies : AllByRecursion IsShortFile ts.bodies
  pub mains : AllByRecursion IsShortMain ts.mains

one_within : (f : TextTree) (ts : Trees) → TreeWithin f → TreesWithin ts → TreesWithin (with_first f ts)
one_within (trees.Interfaces f) ts w all = record { interfaces = (w, all.interfaces); bodies = all.bodies; mains = all.mains }
one_within (trees.Bodies f) ts w all = record { interfaces = all.interfaces; bodies = (w, all.bodies); mains = all.mains }
one_within (trees.Main f) ts w all = record { interfaces = all.interfaces; bodies = all.bodies; mains = (w, all.mains) }

pub texts_within : (ss : List Source) (ts : Trees) → bytes_in ss ≤ MAX_BYTES → ReadsAll ss (Ok ts) → TreesWithin ts
texts_within _ _ le no_more = record { interfaces = tt; bodies = tt; mains = tt }
texts_within _ _ le (one_more {s = s} {ss = ss} {f = f} {ts = ts} x p) = one_within f ts (read_within s f (omega (arith, le)) x) (texts_within ss ts (omega (arith, le)) p)
