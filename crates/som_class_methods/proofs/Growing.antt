-- What stays where one class more has a number.
use Rattle.std.proofs.Common.{◌≡◌, ℕ, ◌<◌, Bool, true, false, if◌then◌else◌, List, [], ◌∷◌, ◌++◌, length, get_or, sym, ap, ◌∙◌, subst, arith, length-append}
use Rattle.std.proofs.Math.ListN.{get_or-append}
use Rattle.som_model.specs.declared.key.ClassKey.{ClassKey}
use Rattle.som_model.specs.declared.key.MethodRef.{MethodRef}
use Rattle.som_model.specs.Lists.{some}
use Rattle.som_model.specs.Keys.{same_key}
use Rattle.som_model.specs.Kernel.{som_object}
use Rattle.som_model.specs.Owner.{introduced_by}
use Rattle.som_meta.specs.Numbering.{IsNumbered, Numbering, key_at}
use Rattle.som_class_ids.specs.Numbers.{AreFirst, with_key}
use Rattle.som_model.specs.declared.class.Entry.{Entry}
use Rattle.som_class_methods.specs.Owners.{HaveOwners, IsTokenOf}
use Rattle.som_class_methods.specs.Tokens.{IsOwners}
use Rattle.som_class_methods.specs.declared.owners.Owners.{Owners}
use Rattle.som_class_methods.specs.declared.members.Members.{Members}
use Rattle.som_class_methods.specs.Members.{HaveTokens}
use Rattle.som_class_methods.specs.Own.{IsMembers}

module _ (k : Numbering) (key : ClassKey) where
  abbrev more : Numbering
  more = record { classes = k.classes; keys = k.keys ++ key ∷ [] }

  key_stays : (n : ℕ) → IsNumbered k n → key_at more n ≡ key_at k n
  key_stays n lt = get_or-append k.keys (key ∷ []) som_object n lt

  number_stays : (n : ℕ) → IsNumbered k n → IsNumbered more n
  number_stays n lt = let long = length-append k.keys (key ∷ []) in let l = lt in omega (arith, long, l)

  token_stays : (t : ℕ × ℕ) (r : MethodRef) → IsTokenOf k t r → IsTokenOf more t r
  token_stays t r h = record {
    token = (number_stays t.0 h.token.0, subst (λ z. t.1 < length (introduced_by k.classes z)) (sym (key_stays t.0 h.token.0)) h.token.1);
    method = ap (λ z. let m : MethodRef = record { class = z; name = get_or (introduced_by k.classes z) t.1 [] } in m) (key_stays t.0 h.token.0) ∙ h.method;
  }

  tokens_stay : (rs : List MethodRef) (ts : List (ℕ × ℕ)) → HaveTokens k rs ts → HaveTokens more rs ts
  tokens_stay [] [] h = h
  tokens_stay (r ∷ rs) (t ∷ ts) h = (token_stays t _ h.0, tokens_stay rs ts h.1)
  tokens_stay [] (t ∷ ts) h = absurd h
  tokens_stay (r ∷ rs) [] h = absurd h

  owners_stay : (c : ClassKey) (es : List Entry) (ts : List (ℕ × ℕ)) → HaveOwners k c es ts → HaveOwners more c es ts
  owners_stay c [] [] h = h
  owners_stay c (e ∷ es) (t ∷ ts) h = (token_stays t _ h.0, owners_stay c es ts h.1)
  owners_stay c [] (t ∷ ts) h = absurd h
  owners_stay c (e ∷ es) [] h = absurd h

  first_stays : AreFirst k → AreFirst more
  first_stays is = record {
    numbered = λ n c at. number_stays n (is.numbered n c at);
    key = λ n c at. key_stays n (is.numbered n c at) ∙ is.key n c at;
  }

  grown_owners : (o : Owners) → IsOwners k o → IsOwners more o
  grown_owners o is = record {
    first = first_stays is.first;
    owned = record { within = is.owned.within; each = λ n c lt at. owners_stay c.key c.decl.face.entries _ (is.owned.each n c lt at) };
    each = is.each;
  }

  grown : (m : Members) → IsMembers k m → IsMembers more m
  grown m is = record {
    first = first_stays is.first;
    own = λ n c own at there. record {
      overrides = tokens_stay _ own.overrides ((is.own n c own at there).overrides);
      selects = tokens_stay _ own.selects ((is.own n c own at there).selects);
    };
    each = is.each;
  }

  pub growing : (m : Members) → IsMembers k m → IsMembers (with_key k key) m
  unfolding with_key
  growing m is = by (some (same_key key) k.keys)
    where
      by : (b : Bool) → IsMembers (if b then k else more) m
      by true = is
      by false = grown m is

  pub growing_owners : (o : Owners) → IsOwners k o → IsOwners (with_key k key) o
  unfolding with_key
  growing_owners o is = by (some (same_key key) k.keys)
    where
      by : (b : Bool) → IsOwners (if b then k else more) o
      by true = is
      by false = grown_owners o is
