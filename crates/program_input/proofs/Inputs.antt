-- What a reader whose bytes are known has given so far.
use Rattle.std.proofs.Common.{◌≡◌, ℕ, List, [], ◌++◌, Option, Some, None, sym, ap, ◌∙◌, append_assoc, append-nil}
use Rattle.std.specs.Io.KnownBytes.{Consumes, IsAtEnd}
use Rattle.program_input.specs.Input.{IsRestOf}

pub consumes_nothing : (left : Option (List ℕ)) (bytes : List ℕ) → bytes ≡ [] → Consumes left left bytes
consumes_nothing None bytes none = tt
consumes_nothing (Some xs) bytes none = sym (ap (λ b. b ++ xs) none)

pub consumes_more : (old now new : Option (List ℕ)) (bytes more all : List ℕ) → all ≡ bytes ++ more → Consumes old now bytes → Consumes now new more → Consumes old new all
consumes_more None now new bytes more all e so_far next = tt
consumes_more (Some xs) None new bytes more all e so_far next = absurd so_far
consumes_more (Some xs) (Some ys) None bytes more all e so_far next = absurd next
consumes_more (Some xs) (Some ys) (Some zs) bytes more all e so_far next =
    so_far ∙ ap (λ t. bytes ++ t) next ∙ sym (append_assoc bytes more zs) ∙ ap (λ t. t ++ zs) (sym e)

pub consumes_all : (old now new : Option (List ℕ)) (bytes none : List ℕ) → none ≡ [] → Consumes old now bytes → Consumes now new none → IsAtEnd new → IsRestOf old bytes
consumes_all None now new bytes none e so_far last end = tt
consumes_all (Some xs) None new bytes none e so_far last end = absurd so_far
consumes_all (Some xs) (Some ys) None bytes none e so_far last end = absurd last
consumes_all (Some xs) (Some ys) (Some zs) bytes none e so_far last end =
    let rest : ys ≡ [] = last ∙ ap (λ t. t ++ zs) e ∙ end in
    sym (so_far ∙ ap (λ t. bytes ++ t) rest ∙ append-nil bytes)
