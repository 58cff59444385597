-- What is told and what is held grow by the same bytes.
use Rattle.std.proofs.Common.{◌≡◌, ℕ, List, [], ◌++◌, Option, Some, None, sym, ap, ◌∙◌, append_assoc, append-nil, subst}
use Rattle.std.proofs.lemmas.List.{append_cancel_left}
use Rattle.std.specs.Io.KnownBytes.{Appends, Keeps}
use Rattle.mainctx.specs.Writing.{GrowAlike}
use Rattle.mainctx.specs.Run.{Writes, HoldsText}
use Rattle.mainctx.specs.Text.{text_of}

-- nothing more is held
appends_nothing : (held : Option (List ℕ)) → Appends held held []
appends_nothing None = tt
appends_nothing (Some xs) = sym (append-nil xs)

-- bytes after bytes
appends_more : (held has holds : Option (List ℕ)) (bytes more : List ℕ) → Appends held has bytes → Appends has holds more → Appends held holds (bytes ++ more)
appends_more None has holds bytes more first then = tt
appends_more (Some xs) None holds bytes more first then = absurd first
appends_more (Some xs) (Some ys) None bytes more first then = absurd then
appends_more (Some xs) (Some ys) (Some zs) bytes more first then = then ∙ ap (λ t. t ++ more) first ∙ append_assoc xs bytes more

-- what is held stays
appends_kept : (held has holds : Option (List ℕ)) (bytes : List ℕ) → Appends held has bytes → Keeps has holds → Appends held holds bytes
appends_kept None has holds bytes first kept = tt
appends_kept (Some xs) None holds bytes first kept = absurd first
appends_kept (Some xs) (Some ys) None bytes first kept = absurd kept
appends_kept (Some xs) (Some ys) (Some zs) bytes first kept = kept ∙ first

pub alike_none : (old : List ℕ) (held : Option (List ℕ)) → GrowAlike old old held held
alike_none old held = record { bytes = []; told = sym (append-nil old); known = appends_nothing held }

pub alike_more : (old now new : List ℕ) (held has holds : Option (List ℕ)) (more : List ℕ) → GrowAlike old now held has → new ≡ now ++ more → Appends has holds more → GrowAlike old new held holds
alike_more old now new held has holds more so_far told known = record {
  bytes = so_far.bytes ++ more;
  told = told ∙ ap (λ t. t ++ more) so_far.told ∙ append_assoc old so_far.bytes more;
  known = appends_more held has holds so_far.bytes more so_far.known known;
}

pub alike_kept : (old now new : List ℕ) (held has holds : Option (List ℕ)) → GrowAlike old now held has → new ≡ now → Keeps has holds → GrowAlike old new held holds
alike_kept old now new held has holds so_far told known = record {
  bytes = so_far.bytes;
  told = told ∙ so_far.told;
  known = appends_kept held has holds so_far.bytes so_far.known known;
}

-- what is held gained the text where what is told did
pub holds_text : (bytes old new : List ℕ) (held holds : Option (List ℕ)) → Writes bytes old new → GrowAlike old new held holds → HoldsText bytes held holds
holds_text bytes old new held holds writes alike =
    let same : alike.bytes ≡ text_of writes.script = append_cancel_left old alike.bytes (text_of writes.script) (sym alike.told ∙ writes.gained) in
    record { script = writes.script; read = writes.read; gained = subst (Appends held holds) same alike.known }

-- what grew alike twice grew alike
pub alike_then : (old now new : List ℕ) (held has holds : Option (List ℕ)) → GrowAlike old now held has → GrowAlike now new has holds → GrowAlike old new held holds
alike_then old now new held has holds first next = alike_more old now new held has holds next.bytes first next.told next.known
