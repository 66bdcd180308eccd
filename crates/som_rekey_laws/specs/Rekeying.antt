-- A change of modules, and what it makes of keys, types, faces, blocks and classes: only the module of each name changes, and what is made of named classes is made of their new names.
use Rattle.std.specs.Prelude.{ℕ, List, map}
use Rattle.std.specs.Option.{option_map}
use Rattle.som_model.specs.declared.key.Module.{Module}
use Rattle.som_model.specs.declared.key.ClassKey.{ClassKey, roll-ClassKey, fold-ClassKey}
use Rattle.som_model.specs.declared.key.ClassKey.TheOpen.{ClassKey-F}
use Rattle.som_model.specs.declared.key.ValueType.{ValueType}
use Rattle.som_model.specs.declared.key.ValueType.TheVariants as types
use Rattle.som_model.specs.declared.key.MethodRef.{MethodRef}
use Rattle.som_model.specs.declared.syntax.Expr.{Expr, roll-Expr, fold-Expr}
use Rattle.som_model.specs.declared.syntax.Expr.TheOpen.{Expr-F}
use Rattle.som_model.specs.declared.syntax.Stmt.{Stmt, roll-Stmt}
use Rattle.som_model.specs.declared.syntax.Stmt.TheOpen.{Stmt-F}
use Rattle.som_model.specs.declared.syntax.Block.{Block, roll-Block, fold-Block}
use Rattle.som_model.specs.declared.class.Sig.{Sig}
use Rattle.som_model.specs.declared.class.Entry.{Entry}
use Rattle.som_model.specs.declared.class.Entry.TheVariants as entries
use Rattle.som_model.specs.declared.class.Variable.{Variable}
use Rattle.som_model.specs.declared.class.Body.{Body}
use Rattle.som_model.specs.declared.class.Body.TheVariants as bodies
use Rattle.som_model.specs.declared.class.Override.{Override}
use Rattle.som_model.specs.declared.class.Select.{Select}
use Rattle.som_model.specs.declared.class.ClassFace.{ClassFace}
use Rattle.som_model.specs.declared.class.ClassDecl.{ClassDecl}
use Rattle.som_model.specs.Class.{Class}
use Rattle.som_model.specs.Implementation.{Held, User, Get, Set, OfKernel, Forward, Nothing}

-- the new module of each name, by its module
abbrev pub ModuleChange : Type 0
ModuleChange = Module → List ℕ → Module

-- one layer of a key, where the keys in it are new
abbrev pub rekey_layer : ModuleChange → ClassKey-F ClassKey → ClassKey-F ClassKey
rekey_layer f (ClassKey-F.Named m name) = ClassKey-F.Named (f m name) name
rekey_layer f (ClassKey-F.Derived ks) = ClassKey-F.Derived ks
rekey_layer f (ClassKey-F.Proxy k) = ClassKey-F.Proxy k

-- the new key
abbrev pub rekey : ModuleChange → ClassKey → ClassKey
rekey f = fold-ClassKey ClassKey (λ x. roll-ClassKey (rekey_layer f x))

abbrev pub rekey_type : ModuleChange → ValueType → ValueType
rekey_type f types.Void = types.Void
rekey_type f types.Long = types.Long
rekey_type f types.Boolean = types.Boolean
rekey_type f types.Str = types.Str
rekey_type f (types.Class k) = types.Class (rekey f k)

abbrev pub rekey_method : ModuleChange → MethodRef → MethodRef
rekey_method f r = record { class = rekey f r.class; name = r.name }

abbrev pub rekey_sig : ModuleChange → Sig → Sig
rekey_sig f s = record { result = rekey_type f s.result; params = map (rekey_type f) s.params }

abbrev pub rekey_entry : ModuleChange → Entry → Entry
rekey_entry f (entries.Introduced name sig way) = entries.Introduced name (rekey_sig f sig) way
rekey_entry f (entries.Moved name to) = entries.Moved name (rekey f to)

abbrev pub rekey_face : ModuleChange → ClassFace → ClassFace
rekey_face f c = record {
  name = c.name;
  major = c.major;
  minor = c.minor;
  parents = map (rekey f) c.parents;
  metaclass = option_map (rekey f) c.metaclass;
  entries = map (rekey_entry f) c.entries;
}

-- one layer of an expression, where the expressions in it are new
abbrev pub rekey_expr_layer : ModuleChange → Expr-F Expr → Expr-F Expr
rekey_expr_layer f (Expr-F.New k) = Expr-F.New (rekey f k)
rekey_expr_layer f (Expr-F.Class k) = Expr-F.Class (rekey f k)
rekey_expr_layer f (Expr-F.Cast k e) = Expr-F.Cast (rekey f k) e
rekey_expr_layer f (Expr-F.Isa k e) = Expr-F.Isa (rekey f k) e
rekey_expr_layer f (Expr-F.Proxy k e) = Expr-F.Proxy (rekey f k) e
rekey_expr_layer f (Expr-F.OffsetCall r e es) = Expr-F.OffsetCall (rekey_method f r) e es
rekey_expr_layer f (Expr-F.Lookup kind name e es) = Expr-F.Lookup (rekey_type f kind) name e es
rekey_expr_layer f (Expr-F.Dispatch kind name e es) = Expr-F.Dispatch (rekey_type f kind) name e es
rekey_expr_layer f (Expr-F.ParentCall n r es) = Expr-F.ParentCall n (rekey_method f r) es
rekey_expr_layer f (Expr-F.ParentsCall r es) = Expr-F.ParentsCall (rekey_method f r) es
rekey_expr_layer f x = x

abbrev pub rekey_expr : ModuleChange → Expr → Expr
rekey_expr f = fold-Expr Expr (λ x. roll-Expr (rekey_expr_layer f x))

-- one layer of a statement, where the statements and blocks in it are new
abbrev pub rekey_stmt_layer : ModuleChange → Stmt-F Stmt Block → Stmt-F Stmt Block
rekey_stmt_layer f (Stmt-F.Var kind e) = Stmt-F.Var (rekey_type f kind) (rekey_expr f e)
rekey_stmt_layer f (Stmt-F.SetLocal n e) = Stmt-F.SetLocal n (rekey_expr f e)
rekey_stmt_layer f (Stmt-F.SetVariable n e) = Stmt-F.SetVariable n (rekey_expr f e)
rekey_stmt_layer f (Stmt-F.If e a b) = Stmt-F.If (rekey_expr f e) a b
rekey_stmt_layer f (Stmt-F.While e b) = Stmt-F.While (rekey_expr f e) b
rekey_stmt_layer f Stmt-F.Return = Stmt-F.Return
rekey_stmt_layer f (Stmt-F.ReturnValue e) = Stmt-F.ReturnValue (rekey_expr f e)
rekey_stmt_layer f (Stmt-F.Print e) = Stmt-F.Print (rekey_expr f e)
rekey_stmt_layer f (Stmt-F.Free e) = Stmt-F.Free (rekey_expr f e)
rekey_stmt_layer f (Stmt-F.Call e) = Stmt-F.Call (rekey_expr f e)

abbrev pub rekey_block : ModuleChange → Block → Block
rekey_block f = fold-Block Stmt Block (λ x. roll-Stmt (rekey_stmt_layer f x)) (λ b. roll-Block b)

abbrev pub rekey_variable : ModuleChange → Variable → Variable
rekey_variable f v = record { name = v.name; kind = rekey_type f v.kind }

abbrev pub rekey_body : ModuleChange → Body → Body
rekey_body f (bodies.User b) = bodies.User (rekey_block f b)
rekey_body f (bodies.Get n) = bodies.Get n
rekey_body f (bodies.Set n) = bodies.Set n

abbrev pub rekey_override : ModuleChange → Override → Override
rekey_override f o = record { method = rekey_method f o.method; block = rekey_block f o.block }

abbrev pub rekey_select : ModuleChange → Select → Select
rekey_select f s = record { method = rekey_method f s.method; parent = s.parent }

abbrev pub rekey_decl : ModuleChange → ClassDecl → ClassDecl
rekey_decl f d = record {
  face = rekey_face f d.face;
  variables = map (rekey_variable f) d.variables;
  bodies = map (rekey_body f) d.bodies;
  overrides = map (rekey_override f) d.overrides;
  selects = map (rekey_select f) d.selects;
}

-- the class under its new key, which names other classes by theirs
abbrev pub rekey_class : ModuleChange → Class → Class
rekey_class f c = record { key = rekey f c.key; decl = rekey_decl f c.decl }

-- the classes under their new keys, in order
abbrev pub rekey_classes : ModuleChange → List Class → List Class
rekey_classes f cs = map (rekey_class f) cs

-- a body as classes have it
abbrev pub rekey_held : ModuleChange → Held → Held
rekey_held f (User b) = User (rekey_block f b)
rekey_held f (Get n) = Get n
rekey_held f (Set n) = Set n
rekey_held f (OfKernel name) = OfKernel name
rekey_held f Forward = Forward
rekey_held f Nothing = Nothing
