-- Equal parts make equal wholes.
use mathlib.Core.Path.{◌≡◌, ap, ◌∙◌}

pub both : {A B C : Type 0} (f : A → B → C) {a a' : A} {b b' : B} → a ≡ a' → b ≡ b' → f a b ≡ f a' b'
both f {a} {a'} {b} {b'} e d = ap (λ x. f x b) e ∙ ap (f a') d

pub both₃ : {A B C D : Type 0} (f : A → B → C → D) {a a' : A} {b b' : B} {c c' : C} → a ≡ a' → b ≡ b' → c ≡ c' → f a b c ≡ f a' b' c'
both₃ f {a} {a'} {b} {b'} {c} {c'} e d g = both (λ x y. f x y c) e d ∙ ap (f a' b') g
