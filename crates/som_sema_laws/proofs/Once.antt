-- What items say that stand once.
use Rattle.std.proofs.Common.{◌≡◌, ℕ, inl, inr, List, [], ◌∷◌, ◌++◌, Option, Some, None, option_map, refl, sym, ap, ◌∙◌, subst}
use Rattle.std.proofs.lemmas.List.{append-nil}
use Rattle.std.specs.Prelude.{codes, unwrap_or}
use Rattle.som_model.specs.declared.key.Module.{Module}
use Rattle.som_model.specs.Lists.{Mem, first, first_some}
use Rattle.som_model_laws.proofs.Members.{Apart, first_none}
use Rattle.som_model_laws.proofs.Lists.{mem_flat}
use Rattle.som_ast.specs.declared.words.Word.{Word}
use Rattle.som_ast.specs.declared.interface.Item.{Item}
use Rattle.som_ast.specs.declared.interface.Item.TheVariants as items
use Rattle.som_sema_scope.specs.ClassNames.{key_of}
use Rattle.som_sema_scope.specs.Words.{words}
use Rattle.som_sema_drafts.specs.Items.{item_words, listed, major_in, metaclass_names, minor_in, number_of, word_in}
use Rattle.som_sema_laws.specs.Faces.{ListSays, MetaclassSays, PlaceByPlace, VersionSays, text_of}
use Rattle.som_sema_laws.proofs.Placed.{placed}

word_there : (word : List ℕ) (x : Item) (is : List Item) → Mem x is → Mem word (word_in x) → Mem word (item_words is)
word_there word x is m n = mem_flat word_in word x is m n

-- ---- versions

one_major : (is : List Item) (n : ℕ) → Apart (item_words is) → Mem (items.Major n) is → first_some major_in is ≡ Some n
one_major [] n a m = absurd m
one_major (x ∷ is) n a (inl e) = subst (λ (z : Item). first_some major_in (z ∷ is) ≡ Some n) e refl
one_major (items.Major k ∷ is) n a (inr m) = absurd (a.0 (word_there (codes "majorversion") (items.Major n) is m (inl refl)))
one_major (items.ReleaseOrder ws ∷ is) n a (inr m) = one_major is n a.1 m
one_major (items.Metaclass w ∷ is) n a (inr m) = one_major is n a.1 m
one_major (items.Minor k ∷ is) n a (inr m) = one_major is n a.1 m
one_major (items.Method w ms ∷ is) n a (inr m) = one_major is n a m
one_major (items.Variables kind ws ∷ is) n a (inr m) = one_major is n a m

one_minor : (is : List Item) (n : ℕ) → Apart (item_words is) → Mem (items.Minor n) is → first_some minor_in is ≡ Some n
one_minor [] n a m = absurd m
one_minor (x ∷ is) n a (inl e) = subst (λ (z : Item). first_some minor_in (z ∷ is) ≡ Some n) e refl
one_minor (items.Minor k ∷ is) n a (inr m) = absurd (a.0 (word_there (codes "minorversion") (items.Minor n) is m (inl refl)))
one_minor (items.ReleaseOrder ws ∷ is) n a (inr m) = one_minor is n a.1 m
one_minor (items.Metaclass w ∷ is) n a (inr m) = one_minor is n a.1 m
one_minor (items.Major k ∷ is) n a (inr m) = one_minor is n a.1 m
one_minor (items.Method w ms ∷ is) n a (inr m) = one_minor is n a m
one_minor (items.Variables kind ws ∷ is) n a (inr m) = one_minor is n a m

no_major : (x : Item) → ((n : ℕ) → x ≡ items.Major n → ⊥) → major_in x ≡ None
no_major (items.Major n) f = absurd (f n refl)
no_major (items.ReleaseOrder ws) f = refl
no_major (items.Metaclass w) f = refl
no_major (items.Minor n) f = refl
no_major (items.Method w ms) f = refl
no_major (items.Variables kind ws) f = refl

no_minor : (x : Item) → ((n : ℕ) → x ≡ items.Minor n → ⊥) → minor_in x ≡ None
no_minor (items.Minor n) f = absurd (f n refl)
no_minor (items.ReleaseOrder ws) f = refl
no_minor (items.Metaclass w) f = refl
no_minor (items.Major n) f = refl
no_minor (items.Method w ms) f = refl
no_minor (items.Variables kind ws) f = refl

pub major_says : (is : List Item) → Apart (item_words is) → VersionSays items.Major is (number_of major_in is)
major_says is a = record {
  said = λ n m. ap (λ (o : Option ℕ). unwrap_or o 0) (one_major is n a m);
  unsaid = λ f. ap (λ (o : Option ℕ). unwrap_or o 0) (first_none major_in is (λ x m. no_major x (λ n e. f n (subst (λ (z : Item). Mem z is) e m))));
}

pub minor_says : (is : List Item) → Apart (item_words is) → VersionSays items.Minor is (number_of minor_in is)
minor_says is a = record {
  said = λ n m. ap (λ (o : Option ℕ). unwrap_or o 0) (one_minor is n a m);
  unsaid = λ f. ap (λ (o : Option ℕ). unwrap_or o 0) (first_none minor_in is (λ x m. no_minor x (λ n e. f n (subst (λ (z : Item). Mem z is) e m))));
}

-- ---- the metaclass

one_metaclass : (is : List Item) (w : Word) → Apart (item_words is) → Mem (items.Metaclass w) is → first (metaclass_names is) ≡ Some w.text
one_metaclass [] w a m = absurd m
one_metaclass (x ∷ is) w a (inl e) = subst (λ (z : Item). first (metaclass_names (z ∷ is)) ≡ Some w.text) e refl
one_metaclass (items.Metaclass v ∷ is) w a (inr m) = absurd (a.0 (word_there (codes "metaclass") (items.Metaclass w) is m (inl refl)))
one_metaclass (items.ReleaseOrder ws ∷ is) w a (inr m) = one_metaclass is w a.1 m
one_metaclass (items.Major k ∷ is) w a (inr m) = one_metaclass is w a.1 m
one_metaclass (items.Minor k ∷ is) w a (inr m) = one_metaclass is w a.1 m
one_metaclass (items.Method v ms ∷ is) w a (inr m) = one_metaclass is w a m
one_metaclass (items.Variables kind ws ∷ is) w a (inr m) = one_metaclass is w a m

no_metaclass : (is : List Item) → ((w : Word) → Mem (items.Metaclass w) is → ⊥) → metaclass_names is ≡ []
no_metaclass [] f = refl
no_metaclass (items.Metaclass w ∷ is) f = absurd (f w (inl refl))
no_metaclass (items.ReleaseOrder ws ∷ is) f = no_metaclass is (λ w m. f w (inr m))
no_metaclass (items.Major k ∷ is) f = no_metaclass is (λ w m. f w (inr m))
no_metaclass (items.Minor k ∷ is) f = no_metaclass is (λ w m. f w (inr m))
no_metaclass (items.Method v ms ∷ is) f = no_metaclass is (λ w m. f w (inr m))
no_metaclass (items.Variables kind ws ∷ is) f = no_metaclass is (λ w m. f w (inr m))

pub metaclass_says : (module_of : List ℕ → Module) (is : List Item) → Apart (item_words is) → MetaclassSays module_of is (option_map (key_of module_of) (first (metaclass_names is)))
metaclass_says module_of is a = record {
  said = λ w m. ap (option_map (key_of module_of)) (one_metaclass is w a m);
  unsaid = λ f. ap (λ (names : List (List ℕ)). option_map (key_of module_of) (first names)) (no_metaclass is f);
}

-- ---- the release order

no_list : (is : List Item) → ((ws : List Word) → Mem (items.ReleaseOrder ws) is → ⊥) → listed is ≡ []
no_list [] f = refl
no_list (items.ReleaseOrder ws ∷ is) f = absurd (f ws (inl refl))
no_list (items.Metaclass w ∷ is) f = no_list is (λ w m. f w (inr m))
no_list (items.Major k ∷ is) f = no_list is (λ w m. f w (inr m))
no_list (items.Minor k ∷ is) f = no_list is (λ w m. f w (inr m))
no_list (items.Method v ms ∷ is) f = no_list is (λ w m. f w (inr m))
no_list (items.Variables kind ws ∷ is) f = no_list is (λ w m. f w (inr m))

list_here : (x : Item) (is : List Item) (ws : List Word) → Apart (item_words (x ∷ is)) → items.ReleaseOrder ws ≡ x → listed (x ∷ is) ≡ words ws
list_here x is ws a e =
    let b : Apart (item_words (items.ReleaseOrder ws ∷ is)) = subst (λ (z : Item). Apart (item_words (z ∷ is))) (sym e) a in
    let none = no_list is (λ vs m. b.0 (word_there (codes "releaseorder") (items.ReleaseOrder vs) is m (inl refl))) in
    subst (λ (z : Item). listed (z ∷ is) ≡ words ws) e (ap (λ z. words ws ++ z) none ∙ append-nil (words ws))

one_list : (is : List Item) (ws : List Word) → Apart (item_words is) → Mem (items.ReleaseOrder ws) is → listed is ≡ words ws
one_list [] ws a m = absurd m
one_list (x ∷ is) ws a (inl e) = list_here x is ws a e
one_list (items.ReleaseOrder vs ∷ is) ws a (inr m) = absurd (a.0 (word_there (codes "releaseorder") (items.ReleaseOrder ws) is m (inl refl)))
one_list (items.Metaclass w ∷ is) ws a (inr m) = one_list is ws a.1 m
one_list (items.Major k ∷ is) ws a (inr m) = one_list is ws a.1 m
one_list (items.Minor k ∷ is) ws a (inr m) = one_list is ws a.1 m
one_list (items.Method v ms ∷ is) ws a (inr m) = one_list is ws a m
one_list (items.Variables kind vs ∷ is) ws a (inr m) = one_list is ws a m

pub list_says : (is : List Item) → Apart (item_words is) → ListSays is (listed is)
list_says is a = record {
  said = λ ws m. subst (PlaceByPlace text_of ws) (sym (one_list is ws a m)) (placed text_of ws);
  unsaid = no_list is;
}
