-- A request is refused just where its first fault stands.
use Rattle.std.proofs.Common.{◌≡◌, ℕ, ◌<◌, inl, inr, List, [], ◌++◌, length, refl, ap, ◌∙◌, sym}
use Rattle.std.proofs.Common.{append-nil, subst}
use Rattle.std.specs.Prelude.{None, Ok, Err, flat_map}
use Rattle.wire_num.specs.FieldValue.{is_any, passing_at, end_at}
use Rattle.wire_num.specs.Field.{Read, then_read, bytes_at}
use Rattle.wire_num.specs.Length.{per_len_at}
use Rattle.wire_num.specs.Layout.{Packed, count_at, fields_at}
use Rattle.wire_num.specs.Grammar.{IsText, IsPacked}
use Rattle.wire_num.proofs.ReadIsText.{count_ok, read_is_text}
use Rattle.wire_num.proofs.TextIsRead.{bytes_again, count_again, text_is_read}
use Rattle.wire_num.proofs.Missing.{end_err, end_over}
use Rattle.wire_num.proofs.Refused.{step, refused}
use Rattle.wire_num.proofs.RefusalIsRead.{refusal_is_read}
use Rattle.gcc_per.specs.declared.gcc_fault.Cause.{Cause}
use Rattle.gcc_per.specs.declared.gcc_fault.Cause.TheVariants.{Broken}
use Rattle.gcc_per.specs.declared.client_core.Desktop.{Desktop}
use Rattle.gcc_per.specs.declared.client_data.ClientData.{ClientData}
use Rattle.gcc_per.specs.Checked.{Checked, plain}
use Rattle.wire_num.specs.Caused.{then_caused, map_caused, before_caused}
use Rattle.gcc_per.specs.ClientBlocks.{no_blocks}
use Rattle.gcc_per.specs.ClientData.{create_request, client_blocks_at, user_data_at, client_data_at}
use Rattle.gcc_per.specs.Grammar.{Block, block_bytes, core_blocks, IsCore}
use Rattle.gcc_per.specs.Faults.{IsFront, counted_bytes, HasBadFrame, HasUserFault, HasFault}
use Rattle.wire_num.proofs.Caused.{then_err, map_err, before_ok, before_err}
use Rattle.gcc_per.proofs.Checked.{go_on_plain, stop_plain, plain_err, plain_step}
use Rattle.gcc_per.proofs.Within.{content_size}
use Rattle.gcc_per.proofs.Blocks.{content_of}
use Rattle.gcc_per.proofs.UserData.{to_end, in_content, counted}
use Rattle.gcc_per.proofs.BlocksText.{CoreAfter, core_side, is_one_core}
use Rattle.gcc_per.proofs.BlocksFault.{FirstBlocks, first_blocks, client_fault, fault_client, no_core_client, some_client}
use Rattle.gcc_per.proofs.RequestText.{BlocksSay, blocks_ok, request_none}

abbrev no_data : Cause → List ℕ → Checked ClientData
no_data cause left = Err (cause, left)

-- ---- counted bytes

any_by : (r : Read ℕ) → then_read r (λ v rest. Ok (v, rest)) ≡ r
any_by (Ok v) = refl
any_by (Err l) = refl

any_count : (bs : List ℕ) → passing_at is_any (count_at Packed) bs ≡ per_len_at bs
unfolding passing_at
any_count bs = any_by (per_len_at bs)

abbrev skip : List ℕ → List ℕ → Read (List ℕ)
skip content after = Ok ([], after)

abbrev skip_counted : ℕ → List ℕ → Read (List ℕ)
skip_counted n rest = then_read (bytes_at n rest) (λ content after. skip content after)

few_count : (user left : List ℕ) → per_len_at user ≡ Err left → fields_at counted_bytes user ≡ Err left
few_count user left e = ap (λ r. then_read r (λ n rest. skip_counted n rest)) (any_count user ∙ e)

few_bytes : (user more left : List ℕ) (n : ℕ) → per_len_at user ≡ Ok (n, more) → bytes_at n more ≡ Err left → fields_at counted_bytes user ≡ Err left
few_bytes user more left n e f =
    ap (λ r. then_read r (λ n rest. skip_counted n rest)) (any_count user ∙ e) ∙ ap (λ r. then_read r (λ content after. skip content after)) f

few_user : (user left : List ℕ) → fields_at counted_bytes user ≡ Err left → user_data_at user ≡ no_data Broken left
unfolding user_data_at
few_user user left e =
    elim (step (passing_at is_any (count_at Packed) user) (λ n rest. skip_counted n rest) left e) [
      | inl h ↦ stop_plain (per_len_at user) (λ n more. counted n more) left (sym (any_count user) ∙ h)
      | inr p ↦
          let v = p.0 in
          elim (step (bytes_at v.0 v.1) (λ content after. skip content after) left p.2) [
            | inl h ↦
                go_on_plain (per_len_at user) (λ n more. counted n more) v.0 v.1 (sym (any_count user) ∙ p.1)
                ∙ stop_plain (bytes_at v.0 v.1) (λ content after. in_content content after) left h
            | inr q ↦ let no : skip q.0.0 q.0.1 ≡ Err left = q.2 in absurd (let h : ⊥ = cc in h)
          ]
    ]

-- ---- the user data

front : (user count content after : List ℕ) (blocks : List Block) (rest : List ℕ) → user ≡ count ++ (content ++ after) → IsPacked count (length content)
    → FirstBlocks content blocks rest
    → IsFront user blocks rest after
front user count content after blocks rest whole packed first = record {
  count = count;
  whole = whole ∙ ap (λ xs. count ++ (xs ++ after)) first.whole;
  counted = subst (λ xs. IsPacked count (length xs)) first.whole packed;
  each = first.each;
  core = first.core;
  network = first.network;
}

first_of : (user : List ℕ) (blocks : List Block) (rest after : List ℕ) → IsFront user blocks rest after
    → FirstBlocks (flat_map block_bytes blocks ++ rest) blocks rest
first_of user blocks rest after f = record { whole = refl; each = f.each; core = f.core; network = f.network }

record AllRead (content : List ℕ) : Type 0 where
  blocks : List Block
  desktop : Desktop
  first : FirstBlocks content blocks []
  core : IsCore (core_blocks blocks) desktop

all_read : (content : List ℕ) (client : ClientData) → BlocksSay content client → AllRead content
all_read content client b =
    let blocks = b.stand.blocks in
    let adds = b.stand.adds in
    let cores = core_blocks blocks in
    let desktop = b.says.desktop in
    record {
      blocks = blocks;
      desktop = desktop;
      first = first_blocks content blocks [] b.found (b.stand.whole ∙ sym (append-nil (flat_map block_bytes blocks))) b.stand.each adds;
      core = is_one_core cores desktop (subst (λ o. CoreAfter cores None o) b.says.there (core_side blocks no_blocks b.found adds));
    }

user_fault : (user left : List ℕ) (cause : Cause) → user_data_at user ≡ Err (cause, left) → HasUserFault user cause left
unfolding user_data_at
user_fault user left cause e =
    elim (plain_step (per_len_at user) (λ n more. counted n more) cause left e) [
      | inl h ↦ inl (h.0, inl (refused counted_bytes user left (few_count user left h.1)))
      | inr p ↦
          let n = p.0.0 in
          let more = p.0.1 in
          elim (plain_step (bytes_at n more) (λ content after. in_content content after) cause left p.2) [
            | inl h ↦ inl (h.0, inl (refused counted_bytes user left (few_bytes user more left n p.1 h.1)))
            | inr q ↦
                let content = q.0.0 in
                let after = q.0.1 in
                let c = count_ok Packed user p.0 p.1 in
                let whole : user ≡ c.0 ++ (content ++ after) = c.2 ∙ ap (λ xs. c.0 ++ xs) (content_of n more content after q.1) in
                let packed : IsPacked c.0 (length content) = subst (IsPacked c.0) (sym (content_size n more content after q.1)) c.1 in
                elim (then_err (before_caused after (client_blocks_at content)) (λ client end. to_end client end) (cause, left) q.2) [
                  | inl h ↦
                      let d = before_err after (client_blocks_at content) (cause, left) h in
                      elim (client_fault content d.0 cause d.1) [
                        | inl b ↦ inr (b.blocks, b.rest, after, d.0, front user c.0 content after b.blocks b.rest whole packed b.first, b.some, b.fault, d.2)
                        | inr m ↦
                            let all : left ≡ after = d.2 ∙ ap (λ xs. xs ++ after) m.left_is in
                            let f = front user c.0 content after m.blocks [] whole packed m.first in
                            inl (m.cause_is, inr (inl (m.blocks, subst (λ xs. IsFront user m.blocks [] xs) (sym all) f, m.none)))
                      ]
                  | inr h ↦
                      let end = h.0.1 in
                      let g = plain_err (end_at end) cause left (map_err (λ _. h.0.0) (plain (end_at end)) (cause, left) h.2) in
                      let o = end_err end left g.1 in
                      let b = before_ok after (client_blocks_at content) h.0 h.1 in
                      let a = all_read content b.0.0 (blocks_ok content b.0 b.1) in
                      let f = front user c.0 content after a.blocks [] whole packed a.first in
                      let all = subst (λ xs. IsFront user a.blocks [] xs) (b.3 ∙ o.1) f in
                      inl (g.0, inr (inr (a.blocks, a.desktop, all, a.core, subst (λ xs. 0 < length xs) o.1 o.0)))
                ]
          ]
    ]

to_content : (user count content after : List ℕ) → user ≡ count ++ (content ++ after) → IsPacked count (length content)
    → user_data_at user ≡ in_content content after
unfolding user_data_at
to_content user count content after whole packed =
    let n = length content in
    go_on_plain (per_len_at user) (λ n more. counted n more) n (content ++ after) (ap per_len_at whole ∙ count_again Packed count n (content ++ after) packed)
    ∙ go_on_plain (bytes_at n (content ++ after)) (λ content after. in_content content after) content after (bytes_again content after)

abbrev behind_blocks : List ℕ → Checked ClientData → Checked ClientData
behind_blocks after r = then_caused (before_caused after r) (λ client end. to_end client end)

frame_user : (user left : List ℕ) → HasBadFrame user left → user_data_at user ≡ no_data Broken left
frame_user user left b =
    elim b [
      | inl m ↦ few_user user left (refusal_is_read counted_bytes user left m)
      | inr g ↦ elim g [
        | inl h ↦
            let content : List ℕ = flat_map block_bytes h.0 ++ [] in
            to_content user h.1.count content left h.1.whole h.1.counted
            ∙ ap (behind_blocks left) (no_core_client content h.0 (first_of user h.0 [] left h.1) h.2)
        | inr h ↦
            let content : List ℕ = flat_map block_bytes h.0 ++ [] in
            let s = some_client content h.0 h.1 (first_of user h.0 [] left h.2) h.3 in
            to_content user h.2.count content left h.2.whole h.2.counted
            ∙ ap (behind_blocks left) s.1
            ∙ ap (λ r. map_caused (λ _. s.0) (plain r)) (end_over left h.4)
      ]
    ]

fault_user : (user left : List ℕ) (cause : Cause) → HasUserFault user cause left → user_data_at user ≡ no_data cause left
fault_user user left cause f =
    elim f [
      | inl h ↦ frame_user user left h.1 ∙ ap (λ c. no_data c left) (sym h.0)
      | inr h ↦
          let content : List ℕ = flat_map block_bytes h.0 ++ h.1 in
          let first = first_of user h.0 h.1 h.2 h.4 in
          to_content user h.4.count content h.2 h.4.whole h.4.counted
          ∙ ap (behind_blocks h.2) (fault_client content h.3 h.0 h.1 cause first h.5 h.6)
          ∙ ap (no_data cause) (sym h.7)
    ]

-- ---- the request

pub request_fault : (bytes left : List ℕ) (cause : Cause) → client_data_at bytes ≡ Err (cause, left) → HasFault bytes cause left
unfolding client_data_at
request_fault bytes left cause e =
    elim (plain_step (fields_at create_request bytes) (λ _ more. user_data_at more) cause left e) [
      | inl h ↦ inl (h.0, refused create_request bytes left h.1)
      | inr p ↦
          let user = p.0.1 in
          let text = read_is_text create_request bytes p.0.0 user p.1 in
          inr (user, subst (λ vs. IsText create_request bytes vs user) (request_none bytes p.0.0 user text) text, user_fault user left cause p.2)
    ]

pub fault_request : (bytes left : List ℕ) (cause : Cause) → HasFault bytes cause left → client_data_at bytes ≡ no_data cause left
unfolding client_data_at
fault_request bytes left cause f =
    elim f [
      | inl h ↦
          stop_plain (fields_at create_request bytes) (λ _ more. user_data_at more) left (refusal_is_read create_request bytes left h.1)
          ∙ ap (λ c. no_data c left) (sym h.0)
      | inr h ↦
          go_on_plain (fields_at create_request bytes) (λ _ more. user_data_at more) [] h.0 (text_is_read create_request bytes [] h.0 h.1)
          ∙ fault_user h.0 left cause h.2
    ]
