-- There are as many mains as names of mains.
use Rattle.std.proofs.Common.{◌≡◌, ℕ, suc, Bool, true, false, if◌then◌else◌, List, length, Ok, refl, ap, ◌∙◌}
use Rattle.som_lex.specs.declared.token.Tokens.{Tokens}
use Rattle.som_sources.specs.declared.kind.SourceKind.TheVariants as kinds
use Rattle.som_sources.specs.declared.source.Source.{Source}
use Rattle.som_sources.specs.declared.trees.TextTree.{TextTree}
use Rattle.som_sources.specs.declared.trees.TextTree.TheVariants as trees
use Rattle.som_sources.specs.declared.trees.Trees.{Trees}
use Rattle.som_sources.specs.Reading.{IsParsed, Reads, a_tree, ReadsAll, no_more, one_more, Says, with_first}
use Rattle.som_sources.specs.Sources.{is_bodies, is_main, mains_in, names_of}

main_counted : (main bodies : Bool) (t : Tokens) (f : TextTree) (ts : Trees) (n : ℕ) → IsParsed (if main then kinds.Main else (if bodies then kinds.Bodies else kinds.Interfaces)) t (Ok f)
    → length ts.mains ≡ n → length (with_first f ts).mains ≡ (if main then suc n else n)
main_counted true bodies t (trees.Interfaces f) ts n x e = absurd x
main_counted true bodies t (trees.Bodies f) ts n x e = absurd x
main_counted true bodies t (trees.Main f) ts n x e = ap (λ (k : ℕ). suc k) e
main_counted false true t (trees.Interfaces f) ts n x e = absurd x
main_counted false true t (trees.Bodies f) ts n x e = e
main_counted false true t (trees.Main f) ts n x e = absurd x
main_counted false false t (trees.Interfaces f) ts n x e = e
main_counted false false t (trees.Bodies f) ts n x e = absurd x
main_counted false false t (trees.Main f) ts n x e = absurd x

tree_counted : (s : Source) (f : TextTree) (ts : Trees) (n : ℕ) → Reads s (Ok f) → length ts.mains ≡ n → length (with_first f ts).mains ≡ (if is_main s.name then suc n else n)
tree_counted s f ts n (a_tree t _ e c x) l = main_counted (is_main s.name) (is_bodies s.name) t f ts n x l

pub mains_counted : (ss : List Source) (ts : Trees) → ReadsAll ss (Ok ts) → length ts.mains ≡ mains_in (names_of ss)
mains_counted _ _ no_more = refl
mains_counted _ _ (one_more {s = s} {ss = ss} {f = f} {ts = ts} x p) = tree_counted s f ts (mains_in (names_of ss)) x (mains_counted ss ts p)

-- a main is read where there is one
pub one_main_read : (ss : List Source) (ts : Trees) → Says (ReadsAll ss) (Ok ts) → mains_in (names_of ss) ≡ 1 → length ts.mains ≡ 1
one_main_read ss ts x e = mains_counted ss ts x ∙ e
