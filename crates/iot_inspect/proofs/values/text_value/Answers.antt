use Rattle.std.proofs.Common.{◌≡◌, ℕ, ◌+◌, ◌<◌, ◌≤◌, List, [], ◌∷◌, ◌++◌}
use Rattle.std.proofs.Common.{length, get_or, take, string_bytes, rules, sym, ap, ◌∙◌, append-nil}
use Rattle.std.proofs.lemmas.List.{take_more, take_all}
use Rattle.std.proofs.lemmas.Str.{encodes-append}
use Rattle.std.proofs.Math.Utf8.{encode, encodes}
use Rattle.serde_json.specs.Data.{string}
use Rattle.serde_json.specs.View.{view}
use Rattle.serde_json.specs.declared.value.Value.{String, the_lemmas}
use Rattle.iot_inspect.proofs.values.text_value.Goals as goal

-- one character more
one_more : (bytes : List ℕ) (i : ℕ) (old new : List ℕ) → i < length bytes → new ≡ old ++ encode (get_or bytes i 0)
    → old ≡ encodes (take i bytes) → new ≡ encodes (take (i + 1) bytes)
one_more bytes i old new within added is =
    let c : ℕ = get_or bytes i 0 in
    added
    ∙ ap (λ (text : List ℕ). text ++ encode c) is
    ∙ ap (λ (text : List ℕ). encodes (take i bytes) ++ text) (sym (append-nil (encode c)))
    ∙ sym (encodes-append (take i bytes) (c ∷ []))
    ∙ ap encodes (sym (take_more bytes i 0 within))

pub loop-byte-preserved : goal.loop-byte-preserved
loop-byte-preserved c =
    one_more c.args.bytes.now c.loop-byte.byte-index (string_bytes c.loop-byte.text) (string_bytes c.push.new.self) c.loop-byte-test.true
    c.in_ok-push.ensures.bytes c.loop-byte.invariant

all : (bytes text : List ℕ) (i : ℕ) → length bytes ≤ i → text ≡ encodes (take i bytes) → text ≡ encodes bytes
all bytes text i none is = is ∙ ap encodes (take_all i bytes none)

pub returns : goal.returns
returns c =
    let seen : view (String c.loop-byte.text) ≡ string (string_bytes c.loop-byte.text) = search (rules, the_lemmas) in
    seen
    ∙ ap (λ (text : List ℕ). string text)
    (all c.args.bytes.now (string_bytes c.loop-byte.text) c.loop-byte.byte-index c.loop-byte-test.false c.loop-byte.invariant)
