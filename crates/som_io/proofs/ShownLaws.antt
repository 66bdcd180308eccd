-- What is shown of texts that are written one after the other, and counts that rise.
use Rattle.std.proofs.Common.{ℕ, ◌≤◌, List, [], ◌++◌, Option, Some, None, refl, sym, ap, subst, ◌∙◌, append_assoc, arith}
use Rattle.std.proofs.lemmas.List.{append-nil}
use Rattle.som_io.specs.Outside.{Rose, Shows, ShowsAll, ShowsFront}

-- where nothing was written, all is left
pub all_left : (written : Option (List ℕ)) (text : List ℕ) → Shows written written text text
all_left None text = tt
all_left (Some old) text = ([], refl, ap (λ (t : List ℕ). Some t) (sym (append-nil old)))

-- a longer text has a longer rest
pub left_longer : (old new : Option (List ℕ)) (text rest more : List ℕ) → Shows old new text rest → Shows old new (text ++ more) (rest ++ more)
left_longer None new text rest more s = tt
left_longer (Some old) new text rest more s = (s.0, sym (append_assoc s.0 rest more) ∙ ap (λ (t : List ℕ). t ++ more) s.1, s.2)

-- nothing is all of no text
pub shows_none : (written : Option (List ℕ)) → ShowsAll written written []
shows_none None = tt
shows_none (Some old) = ap (λ (t : List ℕ). Some t) (sym (append-nil old))

-- a text after another
pub shows_both : (old mid new : Option (List ℕ)) (a b : List ℕ) → ShowsAll old mid a → ShowsAll mid new b → ShowsAll old new (a ++ b)
shows_both None mid new a b f g = tt
shows_both (Some old) mid new a b f g = subst (λ (m : Option (List ℕ)). ShowsAll m new b) f g ∙ ap (λ (t : List ℕ). Some t) (append_assoc old a b)

-- nothing is a front of any text
pub front_none : (written : Option (List ℕ)) (text : List ℕ) → ShowsFront written written text
front_none written text = (text, all_left written text)

-- all of a text is a front of it
pub front_all : (old new : Option (List ℕ)) (text : List ℕ) → ShowsAll old new text → ShowsFront old new text
front_all None new text f = (text, tt)
front_all (Some old) new text f = ([], (text, append-nil text, f))

-- a front of a text is one of a longer text
pub front_longer : (old new : Option (List ℕ)) (a b : List ℕ) → ShowsFront old new a → ShowsFront old new (a ++ b)
front_longer old new a b f = (f.0 ++ b, left_longer old new a f.0 b f.1)

-- a front of a text after another
pub front_both : (old mid new : Option (List ℕ)) (a b : List ℕ) → ShowsAll old mid a → ShowsFront mid new b → ShowsFront old new (a ++ b)
front_both None mid new a b f g = (a ++ b, tt)
front_both (Some old) mid new a b f g =
    let h = subst (λ (m : Option (List ℕ)). ShowsFront m new b) f g in
    (h.0, (a ++ h.1.0, append_assoc a h.1.0 h.0 ∙ ap (λ (t : List ℕ). a ++ t) h.1.1, h.1.2 ∙ ap (λ (t : List ℕ). Some t) (append_assoc old a h.1.0)))

-- a count that rose later rose from what it was before
pub rose_earlier : (count mid now : ℕ) → count ≤ mid → Rose mid now → Rose count now
rose_earlier count mid now le r = omega (arith, le, r)
