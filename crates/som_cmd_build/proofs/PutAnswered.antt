-- Whatever is got and compiled, there is one answer.
use Rattle.std.proofs.Common.{◌≡◌, ℕ, List, Result, Ok, Err, refl, sym, ap, subst, ◌∙◌}
use Rattle.som_model.specs.declared.program.Release.{Release}
use Rattle.som_model.specs.Bytes.{Files}
use Rattle.som_model.specs.Class.{interface_of}
use Rattle.som_model.specs.Steps.{◌>>=◌}
use Rattle.som_sources.specs.declared.fault.TextFault.{TextFault}
use Rattle.som_sources.specs.declared.source.Source.{Source}
use Rattle.som_sources.specs.Sources.{mains_in}
use Rattle.som_compile.specs.Compiling.{Compiles}
use Rattle.som_compile.proofs.CompileLaws.{some_compiling, one_compiling}
use Rattle.som_compile.proofs.ClientLaws.{some_client, one_client}
use Rattle.som_cmd_steps.specs.declared.stop.Refusal.{Refusal}
use Rattle.som_cmd_steps.specs.Endings.{Ending, refusing}
use Rattle.som_cmd_steps.specs.Fetching.{file_of}
use Rattle.som_cmd_steps.specs.ImageSteps.{sound_release}
use Rattle.som_cmd_sources.specs.declared.client_parts.ClientParts.{ClientParts}
use Rattle.som_cmd_sources.specs.Texts.{text_refused, texts_in}
use Rattle.som_cmd_sources.specs.PutAnswer.{Compiling, IsPutAnswer, not_got, not_compiled, puts, putting}
use Rattle.som_cmd_sources.specs.Parts.{parts_in}
use Rattle.som_cmd_sources.proofs.TextLaws.{mains_named, texts_known}
use Rattle.som_cmd_build.specs.LibraryAnswer.{IsLibraryAnswer}
use Rattle.som_cmd_build.specs.ClientAnswer.{CompilesParts, IsClientAnswer}
use Rattle.som_cmd_build.proofs.BaseLaws.{base_read}

abbrev pub Told : Type 0
Told = Result (List ℕ) TextFault

module _ {A : Type 0} (Comes : Compiling A) (files : Files) (out : List ℕ) (got : Result A Refusal) where
  -- the ending, by what is compiled
  abbrev compiling_ending : Told → Ending
  compiling_ending (Ok image) = putting files out image
  compiling_ending (Err w) = refusing files (text_refused w)

  -- there is an answer where whatever is got is compiled to something
  by_compiling : (x : A) → got ≡ Ok x → (c : Told) → Comes x c → IsPutAnswer Comes files out got (compiling_ending c)
  by_compiling x is (Ok image) made = puts image (x, is, made)
  by_compiling x is (Err w) made = not_compiled x w is made

  some_from : (r : Result A Refusal) → got ≡ r → ((x : A) → r ≡ Ok x → (told : Told) × Comes x told) → (e : Ending) × IsPutAnswer Comes files out got e
  some_from (Ok x) is some = let t = some x refl in (compiling_ending t.0, by_compiling x is t.0 t.1)
  some_from (Err r) is some = (refusing files r, not_got r is)

  pub some_put : ((x : A) → got ≡ Ok x → (told : Told) × Comes x told) → (e : Ending) × IsPutAnswer Comes files out got e
  some_put some = some_from got refl some

  -- and one at most, where it is compiled to one thing
  abbrev is_got : A → Result A Refusal
  is_got x = Ok x

  abbrev is_refused : Refusal → Result A Refusal
  is_refused r = Err r

  same_got : (x y : A) → got ≡ Ok x → got ≡ Ok y → x ≡ y
  same_got x y e f = let h : is_got x ≡ is_got y = sym e ∙ f in cc

  same_refusal : (r s : Refusal) → got ≡ Err r → got ≡ Err s → r ≡ s
  same_refusal r s e f = let h : is_refused r ≡ is_refused s = sym e ∙ f in cc

  got_or_not : {B : Type 0} (x : A) (r : Refusal) → got ≡ Ok x → got ≡ Err r → B
  got_or_not x r e f = let h : is_got x ≡ is_refused r = sym e ∙ f in absurd cc

  module _ (one : (x : A) (a b : Told) → Comes x a → Comes x b → a ≡ b) where
    same_told : (x y : A) (a b : Told) → got ≡ Ok x → got ≡ Ok y → Comes x a → Comes y b → compiling_ending a ≡ compiling_ending b
    same_told x y a b e f c d = ap compiling_ending (one y a b (subst (λ (z : A). Comes z a) (same_got x y e f) c) d)

    pub one_put : (a b : Ending) → IsPutAnswer Comes files out got a → IsPutAnswer Comes files out got b → a ≡ b
    one_put a b (not_got r e) (not_got s f) = ap (refusing files) (same_refusal r s e f)
    one_put a b (not_got r e) (not_compiled x w f c) = got_or_not x r f e
    one_put a b (not_got r e) (puts image (x, f, c)) = got_or_not x r f e
    one_put a b (not_compiled x w e c) (not_got r f) = got_or_not x r e f
    one_put a b (not_compiled x w e c) (not_compiled y v f d) = same_told x y (Err w) (Err v) e f c d
    one_put a b (not_compiled x w e c) (puts image (y, f, d)) = same_told x y (Err w) (Ok image) e f c d
    one_put a b (puts image (x, e, c)) (not_got r f) = got_or_not x r e f
    one_put a b (puts image (x, e, c)) (not_compiled y v f d) = same_told x y (Ok image) (Err v) e f c d
    one_put a b (puts image (x, e, c)) (puts other (y, f, d)) = same_told x y (Ok image) (Ok other) e f c d

-- ---- libraries

pub library_answer : (files : Files) (out : List ℕ) (names : List (List ℕ)) → (e : Ending) × IsLibraryAnswer out names files e
library_answer files out names = some_put Compiles files out (texts_in names files) (λ ss got. some_compiling ss (texts_known names files ss got).1)

pub one_library_answer : (files : Files) (out : List ℕ) (names : List (List ℕ)) (a b : Ending) → IsLibraryAnswer out names files a → IsLibraryAnswer out names files b → a ≡ b
one_library_answer files out names a b is_a is_b = one_put Compiles files out (texts_in names files) one_compiling a b is_a is_b

-- ---- clients

-- what the parts of a client came from
record Came (library : List ℕ) (names : List (List ℕ)) (files : Files) (p : ClientParts) : Type 0 where
  bytes : List ℕ
  texts_are : texts_in names files ≡ Ok p.texts
  base_is : sound_release library bytes ≡ Ok p.base

abbrev Parts : Type 0
Parts = Result ClientParts Refusal

abbrev parted : ClientParts → Parts
parted p = Ok p

abbrev parts_from : Release → List Source → ClientParts
parts_from base texts = record { base = base; texts = texts }

same_parts : (p q : ClientParts) → parted p ≡ parted q → p ≡ q
same_parts p q e = cc

module _ (library : List ℕ) (names : List (List ℕ)) (files : Files) (p : ClientParts) where
  came_base : (bytes : List ℕ) (ss : List Source) (r : Result Release Refusal) → texts_in names files ≡ Ok ss → sound_release library bytes ≡ r → (r >>= λ b. Ok (parts_from b ss)) ≡ Ok p → Came library names files p
  came_base bytes ss (Ok b) e f is = subst (Came library names files) (same_parts (parts_from b ss) p is) (record { bytes = bytes; texts_are = e; base_is = f })
  came_base bytes ss (Err r) e f is = absurd cc

  came_texts : (bytes : List ℕ) (t : Result (List Source) Refusal) → texts_in names files ≡ t → (t >>= λ ss. sound_release library bytes >>= λ b. Ok (parts_from b ss)) ≡ Ok p → Came library names files p
  came_texts bytes (Ok ss) e is = came_base bytes ss (sound_release library bytes) e refl is
  came_texts bytes (Err r) e is = absurd cc

  came_bytes : (b : Result (List ℕ) Refusal) → (b >>= λ bytes. texts_in names files >>= λ ss. sound_release library bytes >>= λ base. Ok (parts_from base ss)) ≡ Ok p → Came library names files p
  came_bytes (Ok bytes) is = came_texts bytes (texts_in names files) refl is
  came_bytes (Err r) is = absurd cc

  came : parts_in library names files ≡ Ok p → Came library names files p
  came is = came_bytes (file_of library files) is

pub client_answer : (files : Files) (out library : List ℕ) (names : List (List ℕ)) → mains_in names ≡ 1 → (e : Ending) × IsClientAnswer out library names files e
client_answer files out library names one =
    some_put CompilesParts files out (parts_in library names files) (λ p got.
    let c = came library names files p got in
    let k = texts_known names files p.texts c.texts_are in
    some_client (interface_of p.base) p.texts (base_read library c.bytes p.base c.base_is) (mains_named names p.texts 1 k.0 one) k.1)

one_parts : (p : ClientParts) (a b : Told) → CompilesParts p a → CompilesParts p b → a ≡ b
one_parts p a b x y = one_client (interface_of p.base) p.texts a b x y

pub one_client_answer : (files : Files) (out library : List ℕ) (names : List (List ℕ)) (a b : Ending) → IsClientAnswer out library names files a → IsClientAnswer out library names files b → a ≡ b
one_client_answer files out library names a b is_a is_b = one_put CompilesParts files out (parts_in library names files) one_parts a b is_a is_b
