-- What a judge has read, from its first byte to its last. Assumes nothing.
use Rattle.std.proofs.Common.{◌≡◌, ℕ, ◌+◌, ◌<◌, ◌≤◌, Bool, true, false, ◌↔◌, List, [], ◌∷◌, ◌++◌, length, get_or, take, drop, Some, None, Decides, refl, subst, append_assoc, append-nil, arith}
use Rattle.std.proofs.lemmas.List.{take_more, take_all, take-append-drop}
use Rattle.measures.proofs.Characters.{octets_none}
use Rattle.measures.proofs.Steps.{stepped_right}
use Rattle.measures.specs.Rfc3629.{Utf8Octets}
use Rattle.measures.specs.Judged.{Rest, Begins, Hopeless, stepped}
use Rattle.measures.specs.declared.judge.Expects.{Expects}
use Rattle.measures.specs.declared.judge.Expects.TheVariants.{Char, Tail, TwoTails, ThreeTails, AfterE0, AfterED, AfterF0, AfterF4}

-- a judge in the state e has read xs
abbrev pub After : Expects → List ℕ → Type 0
After e xs = (more : List ℕ) → Rest e more ↔ Utf8Octets (xs ++ more)

-- from every state some bytes make the text whole
some_rest : (e : Expects) → (bs : List ℕ) × Rest e bs
some_rest Char = ([], octets_none)
some_rest Tail = (0x80 ∷ [], ((omega arith, omega arith), octets_none))
some_rest TwoTails = (0x80 ∷ 0x80 ∷ [], ((omega arith, omega arith), ((omega arith, omega arith), octets_none)))
some_rest ThreeTails = (0x80 ∷ 0x80 ∷ 0x80 ∷ [], ((omega arith, omega arith), ((omega arith, omega arith), ((omega arith, omega arith), octets_none))))
some_rest AfterE0 = (0xA0 ∷ 0x80 ∷ [], ((omega arith, omega arith), ((omega arith, omega arith), octets_none)))
some_rest AfterED = (0x80 ∷ 0x80 ∷ [], ((omega arith, omega arith), ((omega arith, omega arith), octets_none)))
some_rest AfterF0 = (0x90 ∷ 0x80 ∷ 0x80 ∷ [], ((omega arith, omega arith), ((omega arith, omega arith), ((omega arith, omega arith), octets_none))))
some_rest AfterF4 = (0x80 ∷ 0x80 ∷ 0x80 ∷ [], ((omega arith, omega arith), ((omega arith, omega arith), ((omega arith, omega arith), octets_none))))

-- so whatever was read begins a text
pub begins_read : (e : Expects) (xs : List ℕ) → After e xs → Begins xs
begins_read e xs h = let w = some_rest e in (w.0, (h w.0).0 w.1)

push_cons : (xs bs : List ℕ) (b : ℕ) → (xs ++ b ∷ []) ++ bs ≡ xs ++ (b ∷ bs)
push_cons xs bs b = append_assoc xs (b ∷ []) bs

-- a byte that is taken has been read
pub read_more : (e t : Expects) (b : ℕ) (xs : List ℕ) → stepped e b ≡ Some t → After e xs → After t (xs ++ b ∷ [])
read_more e t b xs p h more = (
  λ r. rw push_cons ((h (b ∷ more)).0 ((stepped_right e b more).0 (rw p r))),
  λ o. rw p at ((stepped_right e b more).1 ((h (b ∷ more)).1 (rw push_cons at o))),
)

-- with a byte that is refused no text goes on
pub hopeless_more : (e : Expects) (b : ℕ) (xs : List ℕ) → stepped e b ≡ None → After e xs → Hopeless (xs ++ b ∷ [])
hopeless_more e b xs p h more o = rw p at ((stepped_right e b more).1 ((h (b ∷ more)).1 (rw push_cons at o)))

pub false_true : {P : Type 0} → false ≡ true → P
false_true e = let z : ◌≡◌ {A = ℕ} 0 1 = cc in absurd (omega arith)

-- only before a character nothing more is needed
rest_none : (e : Expects) → Rest e [] → e ≡ Char
rest_none Char r = refl
rest_none Tail r = absurd r
rest_none TwoTails r = absurd r
rest_none ThreeTails r = absurd r
rest_none AfterE0 r = absurd r
rest_none AfterED r = absurd r
rest_none AfterF0 r = absurd r
rest_none AfterF4 r = absurd r

-- what was read is a whole text before a character, and nowhere else
pub whole : (e : Expects) (xs : List ℕ) → e ≡ Char → After e xs → Utf8Octets xs
whole e xs p h = rw append-nil at ((h []).0 (rw p octets_none))

pub only_whole : (e : Expects) (xs : List ℕ) → After e xs → Utf8Octets xs → e ≡ Char
only_whole e xs h o = rest_none e ((h []).1 (rw append-nil o))

-- in a loop over bs, at the index i: the byte there is read, or is refused, or the loop is over
pub read_at : (e : Expects) (bs : List ℕ) (i b : ℕ) → i < length bs → b ≡ get_or bs i 0 → After e (take i bs ++ b ∷ []) → After e (take (i + 1) bs)
read_at e bs i b h p r = rw (take_more bs i 0 h, ← p) r

pub refused_at : (bs : List ℕ) (i b : ℕ) → i < length bs → b ≡ get_or bs i 0 → Hopeless (take i bs ++ b ∷ []) → Decides false (Utf8Octets bs)
refused_at bs i b h p stop =
    let e : (take i bs ++ b ∷ []) ++ drop (i + 1) bs ≡ bs = rw (p, ← take_more bs i 0 h) (take-append-drop (i + 1) bs) in
    (false_true, λ o. absurd (stop (drop (i + 1) bs) (rw e o)))

pub decided_at : (r : Bool) (bs : List ℕ) (i : ℕ) → length bs ≤ i → Decides r (Utf8Octets (take i bs)) → Decides r (Utf8Octets bs)
decided_at r bs i h = subst (λ (t : List ℕ). Decides r (Utf8Octets t)) (take_all i bs h)
