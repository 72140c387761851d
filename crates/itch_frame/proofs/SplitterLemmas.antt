-- The length of the current block, and the law on cut streams.
use Rattle.std.proofs.Common.{◌≡◌, ℕ, ◌+◌, ◌-◌, ◌/◌, ◌%◌, ◌<◌, ◌≤◌, ◌⊎◌, min, List, [], ◌∷◌, ◌++◌, length, take, drop, get_or, refl, sym, ap, subst, ◌∙◌, inl, inr, append_assoc, arith, length-append}
use Rattle.std.proofs.lemmas.List.{take_all, take_at, take-append-le, take-take, length-take-le, length-drop, append-nil, nil_from_length, get_or_append_left, get_or-take, take-append-drop, drop-take}
use Rattle.std.proofs.Math.Seq.{take-append-add, take-add}
use Rattle.std.proofs.lemmas.Bool.{cases_lt}
use Rattle.itch_frame.specs.Blocks.{IsPayload, block, blocks, IsBlock, IsBlockOf, HasNoBlock, Blocks}
use Rattle.itch_frame.specs.Cuts.{IsTake, CutStep, Run, stream_of, payloads_of, AnyCut}
use Rattle.itch_frame.specs.Cuts.CutStep.{Takes, Clears}
use Rattle.itch_frame.specs.Needs.{need}
use Rattle.itch_frame.proofs.BlockLemmas.{nothing_left}

-- a block has the length that its length bytes state
block_need : (bytes : List ℕ) → IsBlock bytes → (2 ≤ length bytes) × (need bytes ≡ length bytes)
block_need bytes (payload, of) =
    let long : (2 ≤ length (block payload)) × (need (block payload) ≡ length (block payload)) = (omega arith, omega arith) in
    subst (λ (b : List ℕ). (2 ≤ length b) × (need b ≡ length b)) (sym of.1) long

-- bytes are a block if their number is the one that their length bytes state
pub whole_block : (held : List ℕ) → 2 ≤ length held → need held ≡ length held → length held ≤ 65537 → get_or held 0 0 < 256 → get_or held 1 0 < 256
    → IsBlockOf (take (length held - 2) (drop 2 held)) held
whole_block [] long is bound x_fits y_fits = absurd (omega arith)
whole_block (x ∷ []) long is bound x_fits y_fits = absurd (omega arith)
whole_block (x ∷ y ∷ payload) long is bound x_fits y_fits =
    let all : take (length (x ∷ y ∷ payload) - 2) payload ≡ payload = take_all (length (x ∷ y ∷ payload) - 2) payload (omega arith) in
    let fits : length payload < 65536 = omega arith in
    let high : x ≡ length payload / 256 % 256 = omega arith in
    let low : y ≡ length payload % 256 = omega arith in
    let whole : IsBlockOf payload (x ∷ y ∷ payload) = (fits, λ i. high i ∷ low i ∷ payload) in
    subst (λ (p : List ℕ). IsBlockOf p (x ∷ y ∷ payload)) (sym all) whole

-- a block needs both length bytes
need_two : (held : List ℕ) → 2 ≤ need held
need_two [] = omega arith
need_two (x ∷ []) = omega arith
need_two (x ∷ y ∷ payload) = omega arith

-- the payload of the first bytes of a buffer
front_payload : (buffer : List ℕ) (len : ℕ) → 2 ≤ len → drop 2 (take len buffer) ≡ take (len - 2) (drop 2 buffer)
front_payload buffer len two =
    let parts : len ≡ 2 + (len - 2) = omega arith in
    ap (λ n. drop 2 (take n buffer)) parts ∙ drop-take 2 (len - 2) buffer

-- the same for the first bytes of a buffer
pub front_whole : (buffer : List ℕ) (len : ℕ) → len ≤ length buffer → len ≤ 65537 → need (take len buffer) ≡ len
    → get_or (take len buffer) 0 0 < 256 → get_or (take len buffer) 1 0 < 256 → IsBlockOf (take (len - 2) (drop 2 buffer)) (take len buffer)
front_whole buffer len within bound is x_fits y_fits =
    let all : length (take len buffer) ≡ len = length-take-le len buffer within in
    let two : 2 ≤ len = omega (arith, need_two (take len buffer)) in
    let same : take (length (take len buffer) - 2) (drop 2 (take len buffer)) ≡ take (len - 2) (drop 2 buffer) =
    ap (λ n. take (n - 2) (drop 2 (take len buffer))) all ∙ ap (take (len - 2)) (front_payload buffer len two) ∙ take-take (len - 2) (len - 2) (drop 2 buffer) (omega arith) in
    subst (λ (p : List ℕ). IsBlockOf p (take len buffer)) same (whole_block (take len buffer) (omega (arith, all)) (is ∙ sym all) (omega (arith, all)) x_fits y_fits)

-- if the first bytes of a buffer are a block, their number is the needed one, and the payload follows the length bytes
pub front_block : (buffer : List ℕ) (len : ℕ) → len ≤ length buffer → IsBlock (take len buffer)
    → (len ≤ need (take len buffer)) × IsBlockOf (take (len - 2) (drop 2 buffer)) (take len buffer)
front_block buffer len within (payload, of) =
    let all : length (take len buffer) ≡ len = length-take-le len buffer within in
    let needs = block_need (take len buffer) (payload, of) in
    let same : payload ≡ take (len - 2) (drop 2 buffer) = ap (drop 2) (sym of.1) ∙ front_payload buffer len (omega (arith, needs.0, all)) in (
      omega (arith, needs.1, all),
      subst (λ (p : List ℕ). IsBlockOf p (take len buffer)) same of,
    )

need_start : (held : List ℕ) → length held < 2 → need held ≡ 2
need_start [] short = refl
need_start (x ∷ []) short = refl
need_start (x ∷ y ∷ payload) short = absurd (omega arith)

-- after both length bytes are known, more bytes do not change the length
need-append : (held more : List ℕ) → 2 ≤ length held → need (held ++ more) ≡ need held
need-append [] more long = absurd (omega arith)
need-append (x ∷ []) more long = absurd (omega arith)
need-append (x ∷ y ∷ payload) more long = refl

-- the first bytes, up to the needed number, are a block if there are enough
pub first_needed : (bytes : List ℕ) → 2 ≤ length bytes → need bytes ≤ length bytes → need bytes ≤ 65537 → ((k : ℕ) → get_or bytes k 0 < 256)
    → IsBlock (take (need bytes) bytes)
first_needed bytes long within bound fits =
    let two : 2 ≤ need bytes = need_two bytes in
    let all : length (take (need bytes) bytes) ≡ need bytes = length-take-le (need bytes) bytes within in
    let same : need (take (need bytes) bytes) ≡ need bytes =
    sym (need-append (take (need bytes) bytes) (drop (need bytes) bytes) (omega (arith, all))) ∙ ap need (take-append-drop (need bytes) bytes) in (
      take (need bytes - 2) (drop 2 bytes),
      front_whole bytes (need bytes) within bound same
          (omega (arith, fits 0, get_or-take (need bytes) bytes 0 0 (omega arith))) (omega (arith, fits 1, get_or-take (need bytes) bytes 1 0 (omega arith))),
    )

-- after more bytes, up to the needed number, there are still no more than the needed number
pub still_begun : (held more : List ℕ) → length held + length more ≤ need held → length (held ++ more) ≤ need (held ++ more)
still_begun held more within = by_length (cases_lt (length held) 2) where
  by_length : (length held < 2) ⊎ (2 ≤ length held) → length (held ++ more) ≤ need (held ++ more)
  by_length (inl short) = omega (arith, length-append held more, need_start held short, need_two (held ++ more))
  by_length (inr long) = omega (arith, length-append held more, need-append held more long)

-- fewer bytes than needed do not complete a block
lacks_some : (held piece : List ℕ) (k n : ℕ) → k < n → n ≤ length piece → length held + n ≤ need held → IsBlock (held ++ take k piece) → ⊥
lacks_some held piece k n below within lacks is = by_length (cases_lt (length held) 2) where
  needs : (2 ≤ length (held ++ take k piece)) × (need (held ++ take k piece) ≡ length (held ++ take k piece))
  needs = block_need (held ++ take k piece) is

  total : length (held ++ take k piece) ≡ length held + k
  total = length-append held (take k piece) ∙ ap (λ m. length held + m) (length-take-le k piece (omega arith))

  by_length : (length held < 2) ⊎ (2 ≤ length held) → ⊥
  by_length (inl short) = let two : need held ≡ 2 = need_start held short in omega (arith, needs.0, total)
  by_length (inr long) = let same : need (held ++ take k piece) ≡ need held = need-append held (take k piece) long in omega (arith, needs.1, total)

-- two moves, each of as many bytes as the current block needs, make one take
pub two_moves : (held piece mid rest new : List ℕ) (first second : ℕ)
    → length held ≤ need held → first ≡ min (need held - length held) (length piece) → mid ≡ held ++ take first piece
    → rest ≡ drop first piece → second ≡ min (need mid - length mid) (length rest) → new ≡ mid ++ take second rest
    → length new ≤ 65537 → ((k : ℕ) → get_or mid k 0 < 256)
    → IsTake held piece (first + second) new
two_moves held piece mid rest new first second begun first_is mid_is rest_is second_is new_is bound bytes = record {
  within = omega (arith, rest_length);
  joined = new_is ∙ ap (λ m. m ++ take second rest) mid_is ∙ append_assoc held (take first piece) (take second rest) ∙ ap (λ t. held ++ t) both;
  fewest = fewest;
  whole = whole;
} where
  rest_length : length rest ≡ length piece - first
  rest_length = ap length rest_is ∙ length-drop first piece

  both : take first piece ++ take second rest ≡ take (first + second) piece
  both = ap (λ r. take first piece ++ take second r) rest_is ∙ sym (take-add first second piece)

  first_length : length (take first piece) ≡ first
  first_length = length-take-le first piece (omega arith)

  second_length : length (take second rest) ≡ second
  second_length = length-take-le second rest (omega arith)

  mid_length : length mid ≡ length held + first
  mid_length = ap length mid_is ∙ length-append held (take first piece) ∙ ap (λ n. length held + n) first_length

  mid_begun : length mid ≤ need mid
  mid_begun = subst (λ (m : List ℕ). length m ≤ need m) (sym mid_is) (still_begun held (take first piece) (omega (arith, first_length)))

  -- the bytes held after the first move and a part of the second
  reach : (k : ℕ) → first ≤ k → held ++ take k piece ≡ mid ++ take (k - first) rest
  reach k far =
      let parts : k ≡ first + (k - first) = omega arith in
      ap (λ n. held ++ take n piece) parts ∙ ap (λ t. held ++ t) (take-add first (k - first) piece)
      ∙ sym (append_assoc held (take first piece) (take (k - first) (drop first piece))) ∙ (λ i. sym mid_is i ++ take (k - first) (sym rest_is i))

  fewest_from : (k : ℕ) → k < first + second → IsBlock (held ++ take k piece) → (k < first) ⊎ (first ≤ k) → ⊥
  fewest_from k below is (inl near) = lacks_some held piece k first near (omega arith) (omega arith) is
  fewest_from k below is (inr far) =
      lacks_some mid rest (k - first) second (omega arith) (omega (arith, rest_length)) (omega (arith, rest_length)) (subst IsBlock (reach k far) is)

  fewest : (k : ℕ) → k < first + second → IsBlock (held ++ take k piece) → ⊥
  fewest k below is = fewest_from k below is (cases_lt k first)

  whole : first + second < length piece → IsBlock new
  whole more =
      let two : 2 ≤ need held = need_two held in
      let long : 2 ≤ length mid = omega (arith, mid_length) in
      let new_length : length new ≡ length mid + second = ap length new_is ∙ length-append mid (take second rest) ∙ ap (λ n. length mid + n) second_length in
      let same : need new ≡ need mid = ap need new_is ∙ need-append mid (take second rest) long in
      let high : get_or new 0 0 ≡ get_or mid 0 0 = ap (λ b. get_or b 0 0) new_is ∙ get_or_append_left mid (take second rest) 0 0 (omega arith) in
      let low : get_or new 1 0 ≡ get_or mid 1 0 = ap (λ b. get_or b 1 0) new_is ∙ get_or_append_left mid (take second rest) 0 1 (omega arith) in (
        take (length new - 2) (drop 2 new),
        whole_block new (omega arith) (omega (arith, rest_length, mid_begun)) bound (omega (arith, bytes 0)) (omega (arith, bytes 1)),
      )

-- no shorter prefix of these bytes is a block
abbrev IsBegun : List ℕ → Type 0
IsBegun bytes = (k : ℕ) → k < length bytes → IsBlock (take k bytes) → ⊥

-- if neither these bytes nor a shorter prefix are a block, they do not begin with a block
begun_open : (held : List ℕ) → IsBegun held → (IsBlock held → ⊥) → HasNoBlock held
begun_open held begun none payload more fits is = by_length (cases_lt 0 (length more)) where
  front : take (length (block payload)) held ≡ block payload
  front = ap (take (length (block payload))) is ∙ take_at (block payload) more (length (block payload)) refl

  total : length held ≡ length (block payload) + length more
  total = ap length is ∙ length-append (block payload) more

  by_length : (0 < length more) ⊎ (length more ≤ 0) → ⊥
  by_length (inl some) = begun (length (block payload)) (omega (arith, total)) (payload, (fits, front))
  by_length (inr nothing) =
      let empty : more ≡ [] = nil_from_length more (omega arith) in
      none (payload, (fits, is ∙ ap (λ m. block payload ++ m) empty ∙ append-nil (block payload)))

-- if nothing is held, no prefix is a block
none_begun : IsBegun []
none_begun k below is = absurd (omega arith)

-- after a take, still no shorter prefix is a block
take_begun : (held piece new : List ℕ) (n : ℕ) → IsBegun held → IsTake held piece n new → IsBegun new
take_begun held piece new n begun took k below is = by_length (cases_lt k (length held)) where
  total : length new ≡ length held + n
  total = ap length took.joined ∙ length-append held (take n piece) ∙ ap (λ m. length held + m) (length-take-le n piece took.within)

  by_length : (k < length held) ⊎ (length held ≤ k) → ⊥
  by_length (inl near) =
      begun k near (subst IsBlock (ap (take k) took.joined ∙ take-append-le k held (take n piece) (omega arith)) is)
  by_length (inr far) =
      let parts : k ≡ length held + (k - length held) = omega arith in
      took.fewest (k - length held) (omega (arith, total))
      (subst IsBlock (ap (take k) took.joined ∙ ap (λ m. take m (held ++ take n piece)) parts ∙ take-append-add held (take n piece) (k - length held)
      ∙ ap (λ t. held ++ t) (take-take (k - length held) n piece (omega (arith, total)))) is)

-- the law for a splitter that already holds bytes before the steps
record CutFrom (before : List ℕ) (steps : List CutStep) (held : List ℕ) : Type 0 where
  unfinished : (IsBlock held → ⊥) → Blocks (before ++ stream_of steps) (payloads_of steps) held
  ready : (payload : List ℕ) → IsBlockOf payload held → Blocks (before ++ stream_of steps) (payloads_of steps ++ payload ∷ []) []

-- the same stream, in another form
same_stream : (bytes other : List ℕ) (ps : List (List ℕ)) (rest : List ℕ) → bytes ≡ other → Blocks other ps rest → Blocks bytes ps rest
same_stream bytes other ps rest same reading = record { whole = same ∙ reading.whole; each = reading.each; no_more = reading.no_more }

-- one more block in front of a stream
block_on : (p bytes : List ℕ) (ps : List (List ℕ)) (rest : List ℕ) → IsPayload p → Blocks bytes ps rest → Blocks (block p ++ bytes) (p ∷ ps) rest
block_on p bytes ps rest fits reading = record {
  whole = ap (λ following. block p ++ following) reading.whole ∙ sym (append_assoc (block p) (blocks ps) rest);
  each = (fits, reading.each);
  no_more = reading.no_more;
}

cut_from : (before : List ℕ) (steps : List CutStep) (held : List ℕ) → IsBegun before → Run before steps held → CutFrom before steps held
cut_from before [] held begun same = record {
  unfinished = λ none. record {
    whole = append-nil before ∙ sym same;
    each = tt;
    no_more = begun_open held (subst IsBegun (sym same) begun) none;
  };
  ready = λ payload is. record {
    whole = append-nil before ∙ sym same ∙ is.1 ∙ sym (append-nil (block payload)) ∙ sym (append-nil (block payload ++ []));
    each = (is.0, tt);
    no_more = nothing_left IsPayload;
  };
}
cut_from before (Takes piece n ∷ steps) held begun (mid, took, later) =
    let rest : CutFrom mid steps held = cut_from mid steps held (take_begun before piece mid n begun took) later in
    let same : before ++ (take n piece ++ stream_of steps) ≡ mid ++ stream_of steps =
    sym (append_assoc before (take n piece) (stream_of steps)) ∙ ap (λ m. m ++ stream_of steps) (sym took.joined) in
    record {
      unfinished = λ none. same_stream _ _ _ _ same (rest.unfinished none);
      ready = λ payload is. same_stream _ _ _ _ same (rest.ready payload is);
    }
cut_from before (Clears payload ∷ steps) held begun (dropped, later) =
    let rest : CutFrom [] steps held = cut_from [] steps held none_begun later in
    let same : before ++ stream_of steps ≡ block payload ++ stream_of steps = ap (λ b. b ++ stream_of steps) dropped.1 in
    record {
      unfinished = λ none. same_stream _ _ _ _ same (block_on payload (stream_of steps) (payloads_of steps) held dropped.0 (rest.unfinished none));
      ready = λ last is. same_stream _ _ _ _ same (block_on payload (stream_of steps) (payloads_of steps ++ last ∷ []) [] dropped.0 (rest.ready last is));
    }

-- for every way to cut a stream, the payloads are those of its blocks
pub any_cut_lem : (steps : List CutStep) → (held : List ℕ) → Run [] steps held → AnyCut steps held
any_cut_lem steps held run =
    let all : CutFrom [] steps held = cut_from [] steps held none_begun run in
    record { unfinished = all.unfinished; ready = all.ready }
