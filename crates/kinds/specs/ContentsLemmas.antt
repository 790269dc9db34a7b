-- Equal content is an equal value. Assumes nothing.
use Rattle.std.specs.Prelude.{◌≡◌, ℕ, ◌<◌, ◌≤◌, ◌&&◌, ◌⊎◌, length, slice_index, nat_eq, Decides}
use Rattle.std.proofs.Common.{sym, ap, ◌∙◌, inl, inr, arith}
use denote.Struct.Record.{values_one}
use Rattle.std.proofs.lemmas.List.{length-take-le, get_or-take, ext_get_or}
use Rattle.std.proofs.lemmas.Bool.{cases_lt}
use Rattle.std.proofs.lemmas.Bool.Decides.{Decides-and, Decides-eqb, Decides-like}
use Rattle.std.proofs.lemmas.Slice.Eq.{bytes_eq-Decides}
use Rattle.std.specs.Cmp.Lexicographic.{pointwise}
use Rattle.kinds.specs.declared.short.ShortBytes.{ShortBytes}
use Rattle.kinds.specs.contracts.short.ShortBytes.{struct, the_propositions}
use Rattle.kinds.specs.Contents.{content}

pub content_length : (a : ShortBytes) → length (content a) ≡ a.len
content_length a = length-take-le a.len a.held (omega (arith, a.room, a.most))

same_read : (a b : ShortBytes) → a.len ≡ b.len → content a ≡ content b → (i : ℕ) → (i < a.len) ⊎ (a.len ≤ i) → slice_index a.held i ≡ slice_index b.held i
same_read a b n e i (inl h) =
    sym (get_or-take a.len a.held i 0 h) ∙ ap (λ l. slice_index l i) e ∙ get_or-take b.len b.held i 0 (omega arith)
same_read a b n e i (inr h) = a.zeros i h ∙ sym (b.zeros i (omega arith))

pub same_bytes : (a b : ShortBytes) → content a ≡ content b → a ≡ b
same_bytes a b e =
    let n : a.len ≡ b.len = sym (content_length a) ∙ ap length e ∙ content_length b in
    let held : a.held ≡ b.held = ext_get_or 0 a.held b.held (a.room ∙ sym b.room) (λ i _. same_read a b n e i (cases_lt i a.len)) in
    values_one struct the_propositions a b (ap (λ l. (l, (a.len, tt))) held ∙ ap (λ m. (b.held, (m, tt))) n)

-- `==` of short bytes, which goes by the array and the length, answers yes exactly of the same.
pub held_test : (a b : ShortBytes) → Decides (pointwise nat_eq a.held b.held && nat_eq a.len b.len) (a ≡ b)
held_test a b =
    Decides-like _
    (λ e. values_one struct the_propositions a b (ap (λ l. (l, (a.len, tt))) e.0 ∙ ap (λ m. (b.held, (m, tt))) e.1))
    (λ e. (ap (λ s. s.held) e, ap (λ s. s.len) e))
    (Decides-and _ _ (bytes_eq-Decides a.held b.held) (Decides-eqb a.len b.len))
