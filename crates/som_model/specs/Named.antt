-- All that programs name: classes, methods, and the classes that they make proxies of.
use Rattle.std.specs.Prelude.{List, [], ◌∷◌, ◌++◌, map, flat_map}
use Rattle.som_model.specs.declared.key.ClassKey.{ClassKey}
use Rattle.som_model.specs.declared.key.MethodRef.{MethodRef}
use Rattle.som_model.specs.declared.key.ValueType.{ValueType}
use Rattle.som_model.specs.declared.key.ValueType.TheVariants as types
use Rattle.som_model.specs.declared.syntax.Expr.{Expr, fold-Expr}
use Rattle.som_model.specs.declared.syntax.Expr.TheOpen.{Expr-F}
use Rattle.som_model.specs.declared.syntax.Stmt.{Stmt, fold-Stmt}
use Rattle.som_model.specs.declared.syntax.Stmt.TheOpen.{Stmt-F, Block-F}
use Rattle.som_model.specs.declared.syntax.Block.{Block, fold-Block}
use Rattle.som_model.specs.declared.class.Sig.{Sig}
use Rattle.som_model.specs.declared.class.Entry.{Entry}
use Rattle.som_model.specs.declared.class.Entry.TheVariants as entries
use Rattle.som_model.specs.declared.class.Body.{Body}
use Rattle.som_model.specs.declared.class.Body.TheVariants as bodies
use Rattle.som_model.specs.declared.class.Override.{Override}
use Rattle.som_model.specs.declared.class.Select.{Select}
use Rattle.som_model.specs.declared.class.ClassFace.{ClassFace}
use Rattle.som_model.specs.declared.class.ClassDecl.{ClassDecl}
use Rattle.som_model.specs.declared.program.Release.{Release}
use Rattle.som_model.specs.declared.program.ClientProgram.{ClientProgram}
use Rattle.som_model.specs.Lists.{joined, option_list}

-- what a program names: a class, or a method by its reference
pub data Named : Type 0 where
  AClass : ClassKey → Named
  AMethod : MethodRef → Named
  AProxy : ClassKey → Named

-- the class of a type, if it is of one
abbrev pub type_names : ValueType → List Named
type_names (types.Class k) = AClass k ∷ []
type_names _ = []

-- a method, and with it the class that it is named by
abbrev pub method_names : MethodRef → List Named
method_names r = AClass r.class ∷ AMethod r ∷ []

-- an expression, by what its parts name
abbrev pub expr_names_step : Expr-F (List Named) → List Named
expr_names_step (Expr-F.Long z) = []
expr_names_step (Expr-F.Str t) = []
expr_names_step (Expr-F.Boolean b) = []
expr_names_step Expr-F.Nil = []
expr_names_step (Expr-F.Local n) = []
expr_names_step Expr-F.Me = []
expr_names_step (Expr-F.Variable n) = []
expr_names_step (Expr-F.Unary op e) = e
expr_names_step (Expr-F.Binary op a b) = a ++ b
expr_names_step (Expr-F.New k) = AClass k ∷ []
expr_names_step (Expr-F.Class k) = AClass k ∷ []
expr_names_step Expr-F.Manager = []
expr_names_step (Expr-F.Cast k e) = AClass k ∷ e
expr_names_step (Expr-F.Isa k e) = AClass k ∷ e
expr_names_step (Expr-F.Proxy k e) = AClass k ∷ AProxy k ∷ e
expr_names_step (Expr-F.OffsetCall r e es) = method_names r ++ (e ++ joined es)
expr_names_step (Expr-F.Lookup kind name e es) = type_names kind ++ (e ++ joined es)
expr_names_step (Expr-F.Dispatch kind name e es) = type_names kind ++ (e ++ joined es)
expr_names_step (Expr-F.ParentCall n r es) = method_names r ++ joined es
expr_names_step (Expr-F.ParentsCall r es) = method_names r ++ joined es
expr_names_step (Expr-F.Host code a b) = a ++ b

abbrev pub expr_names : Expr → List Named
expr_names = fold-Expr (List Named) expr_names_step

-- a statement, by what its blocks name
abbrev pub stmt_names_step : Stmt-F (List Named) (List Named) → List Named
stmt_names_step (Stmt-F.Var kind e) = type_names kind ++ expr_names e
stmt_names_step (Stmt-F.SetLocal n e) = expr_names e
stmt_names_step (Stmt-F.SetVariable n e) = expr_names e
stmt_names_step (Stmt-F.If e a b) = expr_names e ++ (a ++ b)
stmt_names_step (Stmt-F.While e b) = expr_names e ++ b
stmt_names_step Stmt-F.Return = []
stmt_names_step (Stmt-F.ReturnValue e) = expr_names e
stmt_names_step (Stmt-F.Print e) = expr_names e
stmt_names_step (Stmt-F.Free e) = expr_names e
stmt_names_step (Stmt-F.Call e) = expr_names e

abbrev pub block_names_step : Block-F (List Named) (List Named) → List Named
block_names_step b = joined b.statements

abbrev pub stmt_names : Stmt → List Named
stmt_names = fold-Stmt (List Named) (List Named) stmt_names_step block_names_step

-- what a body or a main names
abbrev pub block_names : Block → List Named
block_names = fold-Block (List Named) (List Named) stmt_names_step block_names_step

abbrev pub sig_names : Sig → List Named
sig_names s = type_names s.result ++ flat_map type_names s.params

abbrev pub entry_names : Entry → List Named
entry_names (entries.Introduced name sig way) = sig_names sig
entry_names (entries.Moved name to) = AClass to ∷ []

-- what a face names: parents, the metaclass, the classes of signatures, and those to which entries were moved
abbrev pub face_names : ClassFace → List Named
face_names f = map AClass f.parents ++ (map AClass (option_list f.metaclass) ++ flat_map entry_names f.entries)

abbrev pub body_names : Body → List Named
body_names (bodies.User block) = block_names block
body_names (bodies.Get n) = []
body_names (bodies.Set n) = []

abbrev pub override_names : Override → List Named
override_names o = method_names o.method ++ block_names o.block

abbrev pub select_names : Select → List Named
select_names s = method_names s.method

-- what a class names: by its face, its variables, its bodies, its overrides and its selects
abbrev pub decl_names : ClassDecl → List Named
decl_names d =
    face_names d.face
    ++ (flat_map (λ v. type_names v.kind) d.variables
    ++ (flat_map body_names d.bodies
    ++ (flat_map override_names d.overrides ++ flat_map select_names d.selects)))

-- what a release names
abbrev pub release_names : Release → List Named
release_names r = flat_map decl_names r.classes

-- what a client program names, by the faces that it was compiled against, its classes and its main
abbrev pub program_names : ClientProgram → List Named
program_names p = flat_map face_names p.base.classes ++ (flat_map decl_names p.classes ++ block_names p.main)
