use Rattle.iot_server_node.proofs.ServersLaws.{unopened_stands}
use Rattle.iot_server_node.proofs.server.ServerNode.unopened.Goals as goal

pub returns-clause-stands : goal.returns-clause-stands
returns-clause-stands g c names n = unopened_stands g.D.Disk.medium names c.args.first c.args.backup n c.requires.first c.requires.backup
