-- What a client that wrote nothing asks for, and one that wrote a request.
use Rattle.std.proofs.Common.{◌≡◌, [], ◌∷◌, false, refl}
use Rattle.std.specs.Char.{encode_utf8}
use Rattle.std.specs.Prelude.{codes}
use Rattle.std.specs.Str.{chars, is_utf8}
use Rattle.httparse.specs.Grammar.{is_token_byte, trim_ows}
use Rattle.lard_law_view.specs.Prelude.{Head, blank_lines, blocks, cut_of, field, has_bare_feed, has_content, has_good_host, head_end, head_of, head_verdict, is_close, newline, pairs_in, path_of, pieces, request, run, says_close, section, skipped, until_close, values, verdict, verdicts, version, word}
use Rattle.lard_request.specs.declared.verdict.Verdict.TheVariants.{Serve}

pub nothing-asked : verdicts [] ≡ []
unfolding blocks pieces until_close verdicts
nothing-asked = refl

pub request-block : blocks (request (codes "/a")) ≡ Head (request (codes "/a")) 31 ∷ []
unfolding blocks cut_of head_end pieces skipped
request-block = refl

pub request-asks : verdicts (request (codes "/a")) ≡ Serve (codes "/a") false false ∷ []
unfolding blank_lines blocks chars cut_of encode_utf8 field has_bare_feed has_content has_good_host head_end head_of head_verdict is_close is_token_byte is_utf8 newline pairs_in path_of pieces run says_close section skipped trim_ows until_close values verdict verdicts version word
request-asks = refl
