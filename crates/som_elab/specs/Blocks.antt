-- What the texts of bodies stand for, class by class, or what is first in their way.
use Rattle.std.specs.Prelude.{◌≡◌, ℕ, List, [], ◌∷◌, codes, Option, Some, None, Result, Ok, Err}
use Rattle.som_model.specs.declared.key.Module.{Module}
use Rattle.som_model.specs.declared.syntax.Block.{Block}
use Rattle.som_model.specs.declared.class.Sig.{Sig}
use Rattle.som_model.specs.declared.class.Entry.{Entry}
use Rattle.som_model.specs.declared.class.Entry.TheVariants as entries
use Rattle.som_model.specs.declared.class.Body.{Body}
use Rattle.som_model.specs.declared.class.Body.TheVariants as bodies
use Rattle.som_model.specs.declared.class.Override.{Override}
use Rattle.som_model.specs.declared.class.ClassDecl.{ClassDecl}
use Rattle.som_model.specs.declared.class.Select.{Select}
use Rattle.som_model.specs.declared.limits.TheConstants.{MAX_LOCALS}
use Rattle.som_model.specs.Steps.{◌>>=◌}
use Rattle.som_model.specs.Class.{Class, class_in}
use Rattle.som_model.specs.Owner.{owner, sig_of}
use Rattle.som_model.specs.Rules.{RuleBreach}
use Rattle.som_model.specs.Typing.{in_main}
use Rattle.som_ast.specs.declared.body.BodyText.{BodyText}
use Rattle.som_ast.specs.declared.body.BlockText.{BlockText}
use Rattle.som_verify_classes.specs.Told.{told}
use Rattle.som_sema_drafts.specs.declared.types.Refused.{Refused}
use Rattle.som_sema_drafts.specs.declared.types.Refused.TheVariants as faults
use Rattle.som_sema_drafts.specs.Drafts.{InterfaceDraft}
use Rattle.som_sema_decls.specs.Finished.{selects_at}
use Rattle.som_elab_methods.specs.Accessors.{body_of}
use Rattle.som_elab_methods.specs.Limits.{Passed}
use Rattle.som_elab_body.specs.Expressions.{Among}
use Rattle.som_elab_body.specs.MethodBody.{elaborated_body}
use Rattle.som_elab_body.specs.Statements.{BodyBreach, Breaks, ManyLocals, Told, elaborated_block}
use Rattle.som_elab_methods.specs.Bodies.{texts_for}

-- ---- what is in the way of texts

-- a rule that they break, or a limit that they pass
pub data Refusal : Type 0 where
  Rule : RuleBreach → Refusal
  Limit : Passed → Refusal

abbrev pub too_many_locals : Passed
too_many_locals = record { quantity = codes "locals"; number = MAX_LOCALS }

-- what is wrong with the body of a member of a class
abbrev pub refusal : List ℕ → List ℕ → BodyBreach → Refusal
refusal class member (Breaks rule) = Rule (record { rule = rule; class = class; member = member })
refusal class member ManyLocals = Limit too_many_locals

abbrev pub refused_at : {A : Type 0} → List ℕ → List ℕ → Told A → Result A Refusal
refused_at class member (Ok x) = Ok x
refused_at class member (Err breach) = Err (refusal class member breach)

-- where no rule is broken
abbrev pub obeying : {A : Type 0} → Option RuleBreach → Result A Refusal → Result A Refusal
obeying None further = further
obeying (Some b) further = Err (Rule b)

-- where no limit is passed
abbrev pub keeping : {A : Type 0} → Option Passed → Result A Refusal → Result A Refusal
keeping None further = further
keeping (Some p) further = Err (Limit p)

-- ---- bodies

-- the block that the texts have for a method
abbrev pub text_block : Among → Class → List ℕ → Sig → List BodyText → Result Block Refusal
text_block a c name sig [] = Ok (record { statements = [] })
text_block a c name sig (b ∷ bs) = refused_at c.decl.face.name name (elaborated_body a c sig b)

-- the body of a method that a class introduces: an accessor's own, or the one of the texts
abbrev pub entry_body : Among → List BodyText → Class → List ℕ → Sig → Option Body → Result Body Refusal
entry_body a bs c name sig (Some body) = Ok body
entry_body a bs c name sig None = text_block a c name sig (texts_for bs c.decl.face.name name) >>= λ block. Ok (bodies.User block)

-- the bodies of introduced entries, in order
abbrev pub entry_bodies : Among → List BodyText → InterfaceDraft → Class → List Entry → Result (List Body) Refusal
entry_bodies a bs d c [] = Ok []
entry_bodies a bs d c (entries.Moved name to ∷ es) = entry_bodies a bs d c es
entry_bodies a bs d c (entries.Introduced name sig way ∷ es) =
    entry_body a bs c name sig (body_of d name) >>= λ body. entry_bodies a bs d c es >>= λ more. Ok (body ∷ more)

-- an override with its block
abbrev pub override_block : Among → List BodyText → Class → Override → Option Sig → Result Override Refusal
override_block a bs c o None = Ok o
override_block a bs c o (Some sig) =
    text_block a c o.method.name sig (texts_for bs c.decl.face.name o.method.name) >>= λ block. Ok (record { method = o.method; block = block })

-- the overrides with their blocks, in the order of the text
abbrev pub override_blocks : Among → List BodyText → Class → List Override → Result (List Override) Refusal
override_blocks a bs c [] = Ok []
override_blocks a bs c (o ∷ os) =
    override_block a bs c o (sig_of a.classes (owner a.classes o.method)) >>= λ p. override_blocks a bs c os >>= λ more. Ok (p ∷ more)

-- a declaration with its bodies, and with the parents that it selects
abbrev pub with_blocks : ClassDecl → List Body → List Override → List Select → ClassDecl
with_blocks d own others selects = record d { bodies = own; overrides = others; selects = selects }

-- a class with its bodies: those of introduced methods come before those of overridden ones; and with what its text selects
abbrev pub elaborated_class : Among → Module → List BodyText → InterfaceDraft → Result ClassDecl Refusal
elaborated_class a m bs d =
    entry_bodies a bs d (class_in m d.class) d.class.face.entries >>= λ own.
    override_blocks a bs (class_in m d.class) d.class.overrides >>= λ others.
    Ok (with_blocks d.class own others (selects_at a.classes (class_in m d.class).key d))

-- the classes with their bodies, one after the other
abbrev pub elaborated_each : Among → Module → List BodyText → List InterfaceDraft → Result (List ClassDecl) Refusal
elaborated_each a m bs [] = Ok []
elaborated_each a m bs (d ∷ ds) = elaborated_class a m bs d >>= λ c. elaborated_each a m bs ds >>= λ cs. Ok (c ∷ cs)

-- main, which has no parameters
abbrev pub elaborated_main : Among → BlockText → Result Block Refusal
elaborated_main a block = refused_at (codes "main") (codes "-") (elaborated_block a in_main block [])

-- what the code answers is what texts come to; want of memory says nothing
abbrev pub Answers : {A : Type 0} → Result A Refusal → Result A Refused → Type 0
Answers comes (Ok x) = comes ≡ Ok x
Answers comes (Err (faults.Rule b)) = comes ≡ Err (Rule (told b))
Answers comes (Err (faults.Limit quantity number)) = comes ≡ Err (Limit (record { quantity = quantity; number = number }))
Answers comes (Err faults.NoMemory) = Unit {0}
