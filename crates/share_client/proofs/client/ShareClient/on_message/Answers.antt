use Rattle.std.proofs.Common.{rules}
use Rattle.share_client.proofs.client.ShareClient.on_message.Goals as goal

pub returns-in-Error-clause-ok : goal.returns-in-Error-clause-ok
returns-in-Error-clause-ok c = search (rules, c.on_error.ensures c.in-Error.cause)
