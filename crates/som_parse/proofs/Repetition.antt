-- The laws of the two repetitions.
use Rattle.std.proofs.Common.{List, [], ◌∷◌, ◌++◌, Bool, Option, Some, None, sym, subst, append_assoc, arith}
use Rattle.std.proofs.lemmas.List.{append-nil}
use Rattle.som_parse.specs.declared.cursor.Turn.{Turn}
use Rattle.som_parse.specs.declared.cursor.Turn.TheVariants.{More, Done}
use Rattle.som_parse.specs.declared.token.Sign.TheVariants as sign
use Rattle.som_parse.specs.declared.token.Token.{Token}
use Rattle.som_parse.specs.declared.token.Token.TheVariants as token
use Rattle.som_parse.specs.Languages.{Lang, Listed, the_first, the_next, Repeated, nothing_yet, one_kept, one_left_out, Kept, it_is_kept}
use Rattle.som_parse.specs.Readers.{Parser, pure, added, another, listed, with_kept, one_more, repeated, keeping}
use Rattle.som_parse.proofs.Laws.{Lawful, wider, bind_law, pure_law, when_law}
use Rattle.som_parse.proofs.Steps.{after_sign}
use Rattle.som_parse.proofs.Turns.{Runs, last_turn, next_turn, IsLong, repeat_law}

-- what the turns so far read, and what the others do
module _ {A B : Type 0} (T : A → Lang (Turn A B)) (D : Lang A) (W : Lang B)
    (onwards : (u v : List Token) (a c : A) → D u a → T a v (More c) → D (u ++ v) c)
    (ending : (u v : List Token) (a : A) (b : B) → D u a → T a v (Done b) → W (u ++ v) b) where
  pub grown : {a : A} {v : List Token} {b : B} (u : List Token) → D u a → Runs T a v b → W (u ++ v) b
  grown {a = a} {v = v} {b = b} u d (last_turn t) = ending u v a b d t
  grown {a = a} {b = b} u d (next_turn {c = c} {u = x} {v = y} t run) = subst (λ w. W w b) (append_assoc u x y) (grown (u ++ x) (onwards u x a c d t) run)

-- ---- a { "," a }

module _ {A : Type 0} (L : Lang A) (p : Parser A) (law : Lawful L p) where
  data Another (so_far : List A) : List Token → Turn (List A) (List A) → Type 0 where
    no_comma : Another so_far [] (Done so_far)
    a_comma : {v : List Token} {a : A} → L v a → Another so_far (token.Mark sign.Comma ∷ v) (More (so_far ++ a ∷ []))

  another_law : (so_far : List A) → Lawful (Another so_far) (another p so_far)
  another_law so_far = after_sign (Another so_far) (added p so_far) (pure (Done so_far)) sign.Comma
      (bind_law L _ p _ law (λ v a h. pure_law _ _ (rw append-nil (a_comma h))))
      (pure_law _ _ no_comma)

  onwards_another : (u v : List Token) (a c : List A) → Listed L u a → Another a v (More c) → Listed L (u ++ v) c
  onwards_another u v a c h (a_comma g) = the_next h g

  ending_another : (u v : List Token) (a b : List A) → Listed L u a → Another a v (Done b) → Listed L (u ++ v) b
  ending_another u v a b h no_comma = subst (λ w. Listed L w a) (sym (append-nil u)) h

  long_another : (a c : List A) (u : List Token) → Another a u (More c) → IsLong u
  long_another a c u (a_comma h) = omega arith

  pub listed_law : Lawful (Listed L) (listed p)
  unfolding listed
  listed_law = bind_law L (Listed L) p _ law (λ u a h.
      wider (Runs Another (a ∷ [])) (λ v. Listed L (u ++ v)) _ (λ v b run. grown Another (Listed L) (Listed L) onwards_another ending_another u (the_first h) run)
      (repeat_law Another (another p) another_law long_another (λ x. record { tokens = []; value = x; reads = last_turn no_comma }) (a ∷ [])))

-- ---- { a }

module _ {A : Type 0} (ends : Option Token → Bool) (L : Lang (Option A)) (p : Parser (Option A)) (law : Lawful L p) (long : (u : List Token) (o : Option A) → L u o → IsLong u) where
  data OneMore (so_far : List A) : List Token → Turn (List A) (List A) → Type 0 where
    no_more : OneMore so_far [] (Done so_far)
    one : {u : List Token} {o : Option A} → L u o → OneMore so_far u (More (with_kept so_far o))

  one_more_law : (so_far : List A) → Lawful (OneMore so_far) (one_more ends p so_far)
  one_more_law so_far = when_law (OneMore so_far) ends _ _ (pure_law _ _ no_more) (bind_law L _ p _ law (λ u o h. pure_law _ _ (rw append-nil (one h))))

  with_one : (u v : List Token) (a : List A) (o : Option A) → Repeated L u a → L v o → Repeated L (u ++ v) (with_kept a o)
  with_one u v a (Some x) h g = one_kept h g
  with_one u v a None h g = one_left_out h g

  onwards_more : (u v : List Token) (a c : List A) → Repeated L u a → OneMore a v (More c) → Repeated L (u ++ v) c
  onwards_more u v a c h (one {o = o} g) = with_one u v a o h g

  ending_more : (u v : List Token) (a b : List A) → Repeated L u a → OneMore a v (Done b) → Repeated L (u ++ v) b
  ending_more u v a b h no_more = subst (λ w. Repeated L w a) (sym (append-nil u)) h

  long_more : (a c : List A) (u : List Token) → OneMore a u (More c) → IsLong u
  long_more a c u (one {o = o} h) = long u o h

  pub repeated_law : Lawful (Repeated L) (repeated ends p)
  unfolding repeated
  repeated_law = wider (Runs OneMore []) (Repeated L) _ (λ v b run. grown OneMore (Repeated L) (Repeated L) onwards_more ending_more [] nothing_yet run)
      (repeat_law OneMore (one_more ends p) one_more_law long_more (λ x. record { tokens = []; value = x; reads = last_turn no_more }) [])

pub keeping_law : {A : Type 0} (L : Lang A) (p : Parser A) → Lawful L p → Lawful (Kept L) (keeping p)
keeping_law L p law = bind_law L (Kept L) p _ law (λ u a h. pure_law _ _ (rw append-nil (it_is_kept h)))
